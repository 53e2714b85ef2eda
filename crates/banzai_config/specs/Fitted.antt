-- The stages of a configuration whose atoms are fitted.
use Rattle.std.specs.Prelude.{ℕ, Bool, List, map, nat_eq}
use Rattle.std.specs.List.{list_any}
use Rattle.atom_traits.specs.Form.{TreesForm}
use Rattle.banzai_config.specs.declared.config.FitStage.{FitStage}
use Rattle.banzai_config.specs.declared.parts.FitAtom.{FitAtom}
use Rattle.banzai_config.specs.declared.parts.PartSlot.{PartSlot}
use Rattle.banzai_config.specs.Named.{slot_array}
use Rattle.banzai_config.specs.Parts.{StageForm, fit_form}

-- a fitted stage, where trees_of gives the trees that parameters stand for
abbrev pub fitted_form : {T P : Type 0} → (P → TreesForm) → FitStage T P → StageForm
fitted_form trees_of s = record { stateless = s.stateless; stateful = map (fit_form trees_of) s.stateful }

-- whether one of these slots is an array's
abbrev pub slots_have : ℕ → List PartSlot → Bool
slots_have array slots = list_any (λ slot. nat_eq array (slot_array slot)) slots

-- whether one of these fitted atoms has a slot of an array
abbrev pub atoms_have : {P : Type 0} → ℕ → List (FitAtom P) → Bool
atoms_have {P} array atoms = list_any (λ (a : FitAtom P). slots_have array a.slots) atoms
