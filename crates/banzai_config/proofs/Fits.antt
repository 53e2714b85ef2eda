-- The trees of a legal configuration fit.
use Rattle.std.proofs.Common.{◌≡◌, ℕ, ◌+◌, ◌<◌, Bool, true, false, ◌&&◌, List, [], ◌∷◌, ◌++◌, Option, Some, None, length, map, get_or, refl, sym, ap, ◌∙◌}
use Rattle.std.specs.Bool.{if◌then◌else◌}
use Rattle.std.specs.List.{list_all}
use Rattle.std.specs.Prelude.{nat_eq, nat_lt}
use Rattle.std.proofs.lemmas.Bool.{and_from, false≢true}
use Rattle.std.proofs.lemmas.List.Folds.{list_all-map, list_all_at}
use Rattle.atom_traits.specs.Form.{TreesForm, count_of, forms}
use Rattle.atom_traits.specs.Tests.{all_within}
use Rattle.banzai_config.specs.declared.fault.ConfigKind.{ConfigKind}
use Rattle.banzai_config.specs.declared.fault.ConfigKind.TheVariants as kind
use Rattle.banzai_config.specs.declared.parts.OpAtom.{OpAtom}
use Rattle.banzai_config.specs.declared.parts.StageParts.{StageParts}
use Rattle.banzai_config.specs.declared.parts.TreeAtom.{TreeAtom}
use Rattle.banzai_config.specs.declared.walk.BrokenAtom.{BrokenAtom}
use Rattle.banzai_config.specs.declared.walk.BrokenPlace.{BrokenPlace}
use Rattle.banzai_config.specs.Checked.{stage_fits}
use Rattle.banzai_config.specs.Judged.{broken}
use Rattle.banzai_config.specs.Legal.{Before, Shape, Sizes, atom_tests, before_of, is_there}
use Rattle.banzai_config.specs.Parts.{Atom, Stateless, Stateful, AtomForm, StageForm, atom_form, atoms_of, stage_form}
use Rattle.banzai_config.specs.Walked.{at_place, first_in, first_of, in_stage}

pub passes_at : {X : Type 0} (p : X → Bool) (xs : List X) (i : ℕ) (b : X) → i < length xs → b ≡ get_or xs i b → list_all p xs ≡ true → p b ≡ true
passes_at p xs i b less item all = by_answer (p b) refl where
  by_answer : (r : Bool) → p b ≡ r → p b ≡ true
  by_answer true e = e
  by_answer false e = absurd (false≢true (sym (list_all_at p xs i b less (ap p (sym item) ∙ e)) ∙ all))

-- the trees of atom i fit where all fit
pub atom_at : (fits : TreesForm → Bool) (xs : List TreeAtom) (i : ℕ) (b : TreeAtom) → i < length xs → b ≡ get_or xs i b → list_all (λ (a : AtomForm). fits a.trees) (map atom_form xs) ≡ true → fits (forms b.trees) ≡ true
atom_at fits xs i b less item all =
    passes_at (λ (a : TreeAtom). fits (forms a.trees)) xs i b less item (sym (list_all-map (λ (a : AtomForm). fits a.trees) atom_form xs) ∙ all)

-- stage i fits where all fit
pub stage_at : (fits : TreesForm → Bool) (xs : List StageParts) (i : ℕ) (b : StageParts) → i < length xs → b ≡ get_or xs i b → list_all (stage_fits fits) (map stage_form xs) ≡ true → stage_fits fits (stage_form b) ≡ true
stage_at fits xs i b less item all =
    passes_at (λ (x : StageParts). stage_fits fits (stage_form x)) xs i b less item (sym (list_all-map (stage_fits fits) stage_form xs) ∙ all)

fifth : (w b x n f : Bool) (rest : Option ConfigKind)
    → (if w then (if b then (if x then (if n && f then rest else Some kind.Pattern) else Some kind.WideConstant) else Some kind.BadNumber) else Some kind.Width) ≡ None → f ≡ true
fifth true true true true true rest e = refl
fifth true true true true false rest e = cc
fifth true true true false f rest e = cc
fifth true true false n f rest e = cc
fifth true false x n f rest e = cc
fifth false b x n f rest e = cc

-- an atom that breaks no rule fits
abbrev atom_fits : (TreesForm → Bool) → Atom → Bool
atom_fits fits (Stateless a) = true
atom_fits fits (Stateful a) = fits a.trees

fits_one : (s : Shape) (z : Sizes) (before : Before) (a : Atom) → broken (atom_tests s z before a) ≡ None → atom_fits s.fits a ≡ true
fits_one s z before (Stateless a) e = refl
fits_one s z before (Stateful a) e = fifth (nat_lt before.stateful s.stateful) (is_there z (Stateful a)) (all_within s.bits a.trees) (nat_eq (count_of a.trees) (length a.slots)) (s.fits a.trees) _ e

pub none_here : (k : Option ConfigKind) (n : ℕ) (rest : Option BrokenAtom) → at_place k n rest ≡ None → k ≡ None
none_here None n rest e = refl
none_here (Some k) n rest e = cc

pub none_later : (k : Option ConfigKind) (n : ℕ) (rest : Option BrokenAtom) → at_place k n rest ≡ None → rest ≡ None
none_later None n rest e = e
none_later (Some k) n rest e = cc

pub stage_here : (b : Option BrokenAtom) (n : ℕ) (rest : Option BrokenPlace) → in_stage b n rest ≡ None → b ≡ None
stage_here None n rest e = refl
stage_here (Some b) n rest e = cc

pub stage_later : (b : Option BrokenAtom) (n : ℕ) (rest : Option BrokenPlace) → in_stage b n rest ≡ None → rest ≡ None
stage_later None n rest e = e
stage_later (Some b) n rest e = cc

fit_in : (s : Shape) (z : Sizes) (stages : List StageForm) (before atoms : List Atom) → first_in s z stages before atoms ≡ None → list_all (atom_fits s.fits) atoms ≡ true
fit_in s z stages before [] e = refl
fit_in s z stages before (a ∷ atoms) e =
    let k = broken (atom_tests s z (before_of stages before) a) in
    let rest = first_in s z stages (before ++ a ∷ []) atoms in
    and_from _ _ (fits_one s z (before_of stages before) a (none_here k (length before) rest e)) (fit_in s z stages (before ++ a ∷ []) atoms (none_later k (length before) rest e))

past_ops : (fits : TreesForm → Bool) (ops : List OpAtom) (rest : List Atom) → list_all (atom_fits fits) (map (λ (a : OpAtom). Stateless a) ops ++ rest) ≡ list_all (atom_fits fits) rest
past_ops fits [] rest = refl
past_ops fits (a ∷ ops) rest = past_ops fits ops rest

trees_fit : (fits : TreesForm → Bool) (trees : List AtomForm) → list_all (atom_fits fits) (map (λ (a : AtomForm). Stateful a) trees) ≡ list_all (λ (a : AtomForm). fits a.trees) trees
trees_fit fits [] = refl
trees_fit fits (a ∷ trees) = ap (λ r. fits a.trees && r) (trees_fit fits trees)

pub fit_of : (s : Shape) (z : Sizes) (before stages : List StageForm) → first_of s z before stages ≡ None → list_all (stage_fits s.fits) stages ≡ true
fit_of s z before [] e = refl
fit_of s z before (stage ∷ stages) e =
    let b = first_in s z before [] (atoms_of stage) in
    let rest = first_of s z (before ++ stage ∷ []) stages in
    and_from _ _
    (sym (past_ops s.fits stage.stateless (map (λ (a : AtomForm). Stateful a) stage.stateful) ∙ trees_fit s.fits stage.stateful) ∙ fit_in s z before [] (atoms_of stage) (stage_here b (length before + 1) rest e))
    (fit_of s z (before ++ stage ∷ []) stages (stage_later b (length before + 1) rest e))
