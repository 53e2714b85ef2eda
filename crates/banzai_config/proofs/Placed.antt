-- The arrays of fitted stages.
use Rattle.std.proofs.Common.{◌≡◌, ℕ, Bool, ◌||◌, nat_eq, List, [], ◌∷◌, ◌++◌, map, refl, sym, ap, ◌∙◌}
use Rattle.std.specs.List.{flat_map}
use Rattle.std.proofs.lemmas.List.Folds.{list_any-append}
use Rattle.atom_traits.specs.Form.{TreesForm}
use Rattle.banzai_config.specs.declared.config.FitStage.{FitStage}
use Rattle.banzai_config.specs.declared.parts.FitAtom.{FitAtom}
use Rattle.banzai_config.specs.declared.parts.OpAtom.{OpAtom}
use Rattle.banzai_config.specs.declared.parts.PartSlot.{PartSlot}
use Rattle.banzai_config.specs.Fitted.{atoms_have, fitted_form, slots_have}
use Rattle.banzai_config.specs.Legal.{has}
use Rattle.banzai_config.specs.Named.{arrays_of, slot_array, stage_arrays}
use Rattle.banzai_config.specs.Parts.{Atom, AtomForm, Stateful, Stateless, fit_form}

slots_named : (array : ℕ) (slots : List PartSlot) → has array (map slot_array slots) ≡ slots_have array slots
slots_named array [] = refl
slots_named array (s ∷ slots) = ap (λ y. nat_eq array (slot_array s) || y) (slots_named array slots)

-- atoms without state hold no array
past_ops : (ops : List OpAtom) (rest : List Atom) → flat_map arrays_of (map (λ (a : OpAtom). Stateless a) ops ++ rest) ≡ flat_map arrays_of rest
past_ops [] rest = refl
past_ops (o ∷ ops) rest = past_ops ops rest

trees_named : {P : Type 0} (trees_of : P → TreesForm) (array : ℕ) (atoms : List (FitAtom P))
    → has array (flat_map arrays_of (map (λ (a : AtomForm). Stateful a) (map (fit_form trees_of) atoms))) ≡ atoms_have array atoms
trees_named trees_of array [] = refl
trees_named trees_of array (a ∷ atoms) =
    let rest = flat_map arrays_of (map (λ (a : AtomForm). Stateful a) (map (fit_form trees_of) atoms)) in
    list_any-append (nat_eq array) (map slot_array a.slots) rest
    ∙ ap (λ x. x || has array rest) (slots_named array a.slots)
    ∙ ap (λ y. slots_have array a.slots || y) (trees_named trees_of array atoms)

-- what a fitted stage holds, its atoms hold
stage_named : {T P : Type 0} (trees_of : P → TreesForm) (array : ℕ) (s : FitStage T P) → has array (stage_arrays (fitted_form trees_of s)) ≡ atoms_have array s.stateful
stage_named trees_of array s =
    ap (has array) (past_ops s.stateless (map (λ (a : AtomForm). Stateful a) (map (fit_form trees_of) s.stateful))) ∙ trees_named trees_of array s.stateful

pub holds_by : {T P : Type 0} (trees_of : P → TreesForm) (array : ℕ) (s : FitStage T P) (atoms : List (FitAtom P)) (told : Bool) → told ≡ atoms_have array atoms → atoms ≡ s.stateful
    → told ≡ has array (stage_arrays (fitted_form trees_of s))
holds_by {T} {P} trees_of array s atoms told is same = is ∙ ap (λ (xs : List (FitAtom P)). atoms_have array xs) same ∙ sym (stage_named trees_of array s)
