-- What a machine holds between two cycles, and what a cycle answers.
use Rattle.std.specs.Prelude.{◌≡◌, ℕ, Bool, true, false, Some, None, List, [], length, ⊤}
use Rattle.dom_words.specs.State.{Hash, started}
use Rattle.pipeline_law.specs.Pipeline.{Row, empty_row}
use Rattle.banzai_config.specs.Action.{Arrays, Entry}
use Rattle.banzai_config.specs.Parts.{PartsForm}
use Rattle.banzai_machine.specs.declared.touch.Touch.{Touch}
use Rattle.banzai_machine.specs.Pipe.{pipe}

pub record MachineForm : Type 0 where
  pub config : PartsForm
  pub row : Row Arrays Entry
  -- the state words that the last cycle touched
  pub touches : List Touch

-- the machine is where these entries lead from its beginning
abbrev pub Stands : Hash → List Entry → MachineForm → Type 0
Stands hash entries m = m.row ≡ pipe hash m.config entries

-- a machine with this configuration at its beginning: nothing in flight, the arrays as they start, nothing touched
pub record IsNew (c : PartsForm) (m : MachineForm) : Type 0 where
  pub config : m.config ≡ c
  pub row : m.row ≡ empty_row c.stages (started c.arrays) None
  pub stands : (hash : Hash) → Stands hash [] m
  pub touches : m.touches ≡ []

-- the packet that enters has so many words, if one does
abbrev pub HasWords : ℕ → Entry → Type 0
HasWords n None = ⊤
HasWords n (Some words) = length words ≡ n

-- what a cycle answers: whether a packet left, whose words are then in the packet that was passed
abbrev pub LeavesAs : Entry → Bool → List ℕ → List ℕ → Type 0
LeavesAs None told old new = (told ≡ false) × (new ≡ old)
LeavesAs (Some words) told old new = (told ≡ true) × (new ≡ words)
