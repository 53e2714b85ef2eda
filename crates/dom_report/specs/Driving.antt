-- What is true where the lines of a run are put and one of them fails.
use Rattle.std.specs.Prelude.{◌≡◌, ℕ, ◌+◌, ◌<◌, Option, Some, None, List, length, slice_index_or, take}
use Rattle.dom_io.specs.Held.{IsPart, appended}
use Rattle.dom_words.specs.State.{Hash}
use Rattle.banzai_config.specs.Action.{Entry}
use Rattle.banzai_machine.specs.Pipe.{emitted}
use Rattle.banzai_machine.specs.State.{MachineForm, Stands}
use Rattle.trace_text.specs.Lines.{packet_line}
use Rattle.dom_report.specs.Report.{packet_lines}

-- The machine, which began at its beginning, was clocked over the first of these entries, up to the cycle whose line failed,
-- and with it.
pub record StopsAtLine (hash : Hash) (entries : List Entry) (m : MachineForm) (held held' : Option (List ℕ)) : Type 0 where
  -- so many cycles are before that one
  pub before : ℕ
  pub within : before < length entries
  pub stands : Stands hash (take (before + 1) entries) m
  -- the packet that left in it, whose line failed
  pub packet : List ℕ
  pub leaves : slice_index_or (emitted hash m.config entries) before None ≡ Some packet
  -- the lines of the cycles before it were put, and some first bytes of its line
  pub part : IsPart (appended held (packet_lines 0 (emitted hash m.config (take before entries)))) held' (packet_line before packet)
