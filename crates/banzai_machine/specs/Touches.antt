-- The state words that the stateful atoms of one cycle touch, in order of stage, atom and slot.
use Rattle.std.specs.Prelude.{ℕ, suc, Some, None, List, [], ◌∷◌, ◌++◌, map}
use Rattle.std.specs.List.{flat_map}
use Rattle.banzai_config.specs.declared.parts.PartSlot.{PartSlot}
use Rattle.banzai_config.specs.Action.{Arrays, Entry, slot_element}
use Rattle.banzai_config.specs.Parts.{Atom, PartsForm, Stateful, Stateless, StageForm, atoms_of}
use Rattle.banzai_machine.specs.declared.touch.Touch.{Touch}
use Rattle.banzai_machine.specs.Own.{AreDistinct}

abbrev pub slots_of : Atom → List PartSlot
slots_of (Stateless a) = []
slots_of (Stateful a) = a.slots

-- the element that a slot of a stage with this number reaches
abbrev pub touch_of : ℕ → Arrays → List ℕ → PartSlot → Touch
touch_of number arrays words slot = record { stage = number; array = slot.array; index = slot_element slot arrays words }

-- a stage with this register before it: a touch for each slot of each of its atoms, where there is a packet
abbrev pub touches_before : ℕ → StageForm → Arrays → Entry → List Touch
touches_before number stage arrays None = []
touches_before number stage arrays (Some words) = flat_map (λ atom. map (touch_of number arrays words) (slots_of atom)) (atoms_of stage)

-- those of all stages, of which the first has this number
abbrev pub touches_from : ℕ → List StageForm → List Entry → Arrays → List Touch
touches_from number [] registers arrays = []
touches_from number (stage ∷ stages) [] arrays = []
touches_from number (stage ∷ stages) (register ∷ registers) arrays =
    touches_before number stage arrays register ++ touches_from (suc number) stages registers arrays

-- the touches of a cycle from these registers and arrays; stages count from 1
abbrev pub cycle_touches : PartsForm → List Entry → Arrays → List Touch
cycle_touches p registers arrays = touches_from 1 p.stages registers arrays

-- no array is touched twice
abbrev pub AreOnce : List Touch → Type 0
AreOnce touches = AreDistinct (map (λ t. t.array) touches)
