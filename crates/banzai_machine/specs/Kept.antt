-- What holds of the lists of every machine.
use Rattle.std.specs.Prelude.{◌≡◌, ℕ, ◌+◌, ◌-◌, ◌*◌, ◌<◌, ◌≤◌, All, Bool, true, false, Some, None, List, [], ◌∷◌, ◌++◌, replicate, length, map, ⊤}
use Rattle.std.specs.List.{flat_map}
use Rattle.pipeline_law.specs.Pipeline.{Row}
use Rattle.banzai_config.specs.declared.parts.PartSlot.{PartSlot}
use Rattle.banzai_config.specs.Action.{Arrays, Entry}
use Rattle.banzai_config.specs.Parts.{PartsForm, StageForm, atoms_of}
use Rattle.banzai_machine.specs.declared.touch.Touch.{Touch}
use Rattle.banzai_machine.specs.Ring.{ring}
use Rattle.banzai_machine.specs.Runnable.{array_sizes}
use Rattle.banzai_machine.specs.State.{MachineForm}
use Rattle.banzai_machine.specs.Touches.{AreOnce, slots_of}

-- a list of touches that has room for so many
pub record Touched : Type 0 where
  pub list : List Touch
  pub room : ℕ

-- the slots of a stage's atoms
abbrev pub stage_slots : StageForm → List PartSlot
stage_slots stage = flat_map slots_of (atoms_of stage)

-- one flag and one place for each register; the place of the newest; the arrays with their lengths; room for every touch, of
-- which no two are of one array and each is of an array that there is
pub record IsKept (c : PartsForm) (at : ℕ) (filled : List Bool) (words : List ℕ) (arrays : Arrays) (touches : Touched) : Type 0 where
  pub position : at < length c.stages
  pub flags : length filled ≡ length c.stages
  pub wide : length words ≡ length c.stages * c.containers
  pub sizes : map length arrays ≡ array_sizes c
  pub room : length (flat_map stage_slots c.stages) ≤ touches.room
  pub once : AreOnce touches.list
  pub named : All (λ touch. touch.array < length c.arrays) touches.list

abbrev pub ring_row : PartsForm → ℕ → List Bool → List ℕ → Arrays → Row Arrays Entry
ring_row c position filled words arrays = record { registers = ring c.containers position filled words; state = arrays }

abbrev pub machine_form : PartsForm → ℕ → List Bool → List ℕ → Arrays → List Touch → MachineForm
machine_form c position filled words arrays touches =
    record { config = c; row = ring_row c position filled words arrays; touches = touches }

-- how many flags are set: the packets in flight
abbrev pub one_if : Bool → ℕ
one_if true = 1
one_if false = 0

abbrev pub set_flags : List Bool → ℕ
set_flags [] = 0
set_flags (b ∷ bs) = one_if b + set_flags bs

-- what enters has no more words than there are containers
abbrev pub FitsMost : ℕ → Entry → Type 0
FitsMost n None = ⊤
FitsMost n (Some fields) = length fields ≤ n

-- the containers that it fills
abbrev pub put_in : ℕ → Entry → Entry
put_in n None = None
put_in n (Some fields) = Some (fields ++ replicate (n - length fields) 0)
