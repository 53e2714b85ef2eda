-- Two configurations that run alike.
use Rattle.std.specs.Prelude.{◌≡◌, List, ◌++◌, length}
use Rattle.std.specs.List.{AllByRecursion}
use Rattle.dom_words.specs.State.{Hash}
use Rattle.banzai_config.specs.Action.{Entry}
use Rattle.banzai_config.specs.Parts.{PartsForm}
use Rattle.banzai_machine.specs.Alone.{packets_of}
use Rattle.banzai_machine.specs.Pipe.{drain, emitted, pipe}
use Rattle.dom_report.specs.RunReport.{run_report}

-- each packet among the entries has a word for each field
abbrev pub AreWhole : PartsForm → List Entry → Type 0
AreWhole p entries = AllByRecursion (λ packet. length packet ≡ length p.fields) (packets_of entries)

-- q does over these entries and the drain what p does: the same packets leave in the same cycles, the same words stay in the
-- arrays, and the report is the same
pub record RunsAlike (hash : Hash) (p q : PartsForm) (entries : List Entry) : Type 0 where
  pub cycles : emitted hash q (entries ++ drain q) ≡ emitted hash p (entries ++ drain p)
  pub arrays : (pipe hash q (entries ++ drain q)).state ≡ (pipe hash p (entries ++ drain p)).state
  pub report : run_report hash q entries ≡ run_report hash p entries
