-- What a run puts, in words of the program run serially.
use Rattle.std.specs.Prelude.{◌≡◌, ℕ, ◌+◌, ◌-◌, Some, List, ◌++◌, length, slice_get, take}
use Rattle.std.specs.List.{AllByRecursion}
use Rattle.dom_words.specs.State.{Hash, array_of, started}
use Rattle.dom_ast.specs.Meaning.{serial_run}
use Rattle.dom_ast.specs.Resolved.{CheckedForm}
use Rattle.banzai_config.specs.Action.{Entry}
use Rattle.banzai_config.specs.Named.{stage_arrays}
use Rattle.banzai_config.specs.Parts.{PartsForm, StageForm}
use Rattle.banzai_machine.specs.Alone.{entries_alone, packets_of}
use Rattle.banzai_machine.specs.Pipe.{drain, emitted, pipe}

-- parts that are clocked over these entries, packets and idle cycles in any order, and the drain
pub record IsSerialRun (hash : Hash) (program : CheckedForm) (parts : PartsForm) (entries : List Entry) : Type 0 where
  -- what enters in a cycle leaves as many cycles later as there are stages, an idle cycle as an idle one
  pub cycles : emitted hash parts (entries ++ drain parts) ≡ drain parts ++ entries_alone hash parts (started parts.arrays) entries
  -- the packets that leave are those of the program, run on one packet after another
  pub packets_are : packets_of (emitted hash parts (entries ++ drain parts)) ≡ (serial_run hash program (packets_of entries)).packets
  -- and the words that they leave in the arrays are those of the program
  pub arrays_are : (pipe hash parts (entries ++ drain parts)).state ≡ (serial_run hash program (packets_of entries)).arrays

-- the packets that have passed stage k + 1: those among all entries but the last k + 1
abbrev pub passed : ℕ → List Entry → List (List ℕ)
passed k entries = packets_of (take (length entries - (k + 1)) entries)

-- parts that have been clocked over these entries, drained or not: each stage's arrays are those that the program leaves when
-- it runs on the packets that have passed the stage, one after another
abbrev pub IsSerialMoment : Hash → CheckedForm → PartsForm → List Entry → Type 0
IsSerialMoment hash program parts entries =
    (k : ℕ) (stage : StageForm) → slice_get parts.stages k ≡ Some stage
    → AllByRecursion (λ j. array_of (pipe hash parts entries).state j ≡ array_of (serial_run hash program (passed k entries)).arrays j) (stage_arrays stage)
