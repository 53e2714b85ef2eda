-- What follows from legality.
use Rattle.std.proofs.Common.{◌≡◌, ℕ, ◌+◌, Bool, true, false, ◌&&◌, not, List, [], ◌∷◌, ◌++◌, Option, Some, None, length, refl, sym, ap, ◌∙◌, append_assoc, append-nil}
use Rattle.std.specs.Bool.{if◌then◌else◌}
use Rattle.std.specs.List.{flat_map, list_all}
use Rattle.std.specs.Option.{option_or}
use Rattle.std.specs.Prelude.{nat_eq}
use Rattle.std.proofs.lemmas.Bool.{and_from}
use Rattle.std.proofs.lemmas.Grind.{flat_map-append}
use Rattle.banzai_config.specs.declared.fault.ConfigKind.{ConfigKind}
use Rattle.banzai_config.specs.declared.fault.ConfigKind.TheVariants as kind
use Rattle.banzai_config.specs.declared.walk.BrokenPlace.{BrokenPlace}
use Rattle.banzai_config.specs.Checked.{outputs_say, says_if}
use Rattle.banzai_config.specs.Judged.{broken}
use Rattle.banzai_config.specs.Legal.{Before, LegalFor, Rule, Shape, Sizes, Test, Violation, are_known, are_new, atom_tests, before_of, first_broken, has, has_multiplier, has_narrow_constants, has_pattern, has_place, head_holds, is_there, may_write, sizes_of}
use Rattle.banzai_config.specs.Named.{arrays_of, reads_of, stage_arrays, stage_targets, targets_of}
use Rattle.banzai_config.specs.Parts.{Atom, PartsForm, StageForm, atoms_of}
use Rattle.banzai_config.specs.Walked.{first_in, first_of}
use Rattle.banzai_config.proofs.Broken.{depth_broken, head_broken, rest_broken}
use Rattle.banzai_config.proofs.Fits.{none_here, none_later, stage_here, stage_later}
use Rattle.banzai_config.proofs.Judging.{and_assoc}

rule_holds : (b : Bool) (x : Option Violation) (v : Violation) (rest : Bool) → (x ≡ None → rest ≡ true) → (if b then x else Some v) ≡ None → (b && rest) ≡ true
rule_holds true x v rest f e = f e
rule_holds false x v rest f e = cc

-- a legal configuration breaks no rule
pub all_hold : (rules : List Rule) → first_broken rules ≡ None → list_all (λ (r : Rule). r.test.holds) rules ≡ true
all_hold [] e = refl
all_hold (r ∷ rules) e = rule_holds r.test.holds (first_broken rules) (record { kind = r.test.kind; stage = r.stage; atom = r.atom }) (list_all (λ (r : Rule). r.test.holds) rules) (all_hold rules) e

test_holds : (b : Bool) (x : Option ConfigKind) (k : ConfigKind) (rest : Bool) → (x ≡ None → rest ≡ true) → (if b then x else Some k) ≡ None → (b && rest) ≡ true
test_holds true x k rest f e = f e
test_holds false x k rest f e = cc

pub tests_hold : (ts : List Test) → broken ts ≡ None → list_all (λ (t : Test). t.holds) ts ≡ true
tests_hold [] e = refl
tests_hold (t ∷ ts) e = test_holds t.holds (broken ts) t.kind (list_all (λ (t : Test). t.holds) ts) (tests_hold ts) e

sixth : (w n m c p a r t : Bool) → (w && (n && (m && (c && (p && (a && (r && (t && true)))))))) ≡ true → a ≡ true
sixth true true true true true true r t e = refl
sixth true true true true true false r t e = cc
sixth true true true true false a r t e = cc
sixth true true true false p a r t e = cc
sixth true true false c p a r t e = cc
sixth true false m c p a r t e = cc
sixth false n m c p a r t e = cc

-- an atom that breaks no rule holds no array that stands before it
arrays_new : (s : Shape) (z : Sizes) (before : Before) (a : Atom) → broken (atom_tests s z before a) ≡ None → are_new before.held (arrays_of a) ≡ true
arrays_new s z before a e =
    sixth (has_place s before a) (is_there z a) (has_multiplier s a) (has_narrow_constants s a) (has_pattern s a) (are_new before.held (arrays_of a))
    (are_known z.fields before.known (reads_of a)) (may_write z.version z.fields before.known before.written before.read (reads_of a) (targets_of a)) (tests_hold (atom_tests s z before a) e)

pub new_both : (earlier xs ys : List ℕ) → are_new earlier (xs ++ ys) ≡ (are_new earlier xs && are_new (earlier ++ xs) ys)
new_both earlier [] ys = ap (λ e. are_new e ys) (sym (append-nil earlier))
new_both earlier (x ∷ xs) ys =
    ap (λ r. not (has x earlier) && r) (new_both (earlier ++ x ∷ []) xs ys ∙ ap (λ e. are_new (earlier ++ x ∷ []) xs && are_new e ys) (append_assoc earlier (x ∷ []) xs))
    ∙ sym (and_assoc (not (has x earlier)) (are_new (earlier ++ x ∷ []) xs) (are_new (earlier ++ x ∷ xs) ys))

pub one_more : {A : Type 0} (f : A → List ℕ) (xs : List A) (x : A) → flat_map f (xs ++ x ∷ []) ≡ flat_map f xs ++ f x
one_more f xs x = flat_map-append f xs (x ∷ []) ∙ ap (λ y. flat_map f xs ++ y) (append-nil (f x))

stage_new : (s : Shape) (z : Sizes) (stages : List StageForm) (before atoms : List Atom) → first_in s z stages before atoms ≡ None
    → are_new (flat_map stage_arrays stages ++ flat_map arrays_of before) (flat_map arrays_of atoms) ≡ true
stage_new s z stages before [] e = refl
stage_new s z stages before (a ∷ atoms) e =
    let k = broken (atom_tests s z (before_of stages before) a) in
    let rest = first_in s z stages (before ++ a ∷ []) atoms in
    let held = flat_map stage_arrays stages in
    new_both (held ++ flat_map arrays_of before) (arrays_of a) (flat_map arrays_of atoms)
    ∙ and_from _ _ (arrays_new s z (before_of stages before) a (none_here k (length before) rest e))
    (ap (λ x. are_new x (flat_map arrays_of atoms)) (append_assoc held (flat_map arrays_of before) (arrays_of a) ∙ ap (λ x. held ++ x) (sym (one_more arrays_of before a)))
    ∙ stage_new s z stages (before ++ a ∷ []) atoms (none_later k (length before) rest e))

stages_new : (s : Shape) (z : Sizes) (before stages : List StageForm) → first_of s z before stages ≡ None → are_new (flat_map stage_arrays before) (flat_map stage_arrays stages) ≡ true
stages_new s z before [] e = refl
stages_new s z before (stage ∷ stages) e =
    let b = first_in s z before [] (atoms_of stage) in
    let rest = first_of s z (before ++ stage ∷ []) stages in
    new_both (flat_map stage_arrays before) (stage_arrays stage) (flat_map stage_arrays stages)
    ∙ and_from _ _
    (ap (λ x. are_new x (stage_arrays stage)) (sym (append-nil (flat_map stage_arrays before))) ∙ stage_new s z before [] (atoms_of stage) (stage_here b (length before + 1) rest e))
    (ap (λ x. are_new x (flat_map stage_arrays stages)) (sym (one_more stage_arrays before stage)) ∙ stages_new s z (before ++ stage ∷ []) stages (stage_later b (length before + 1) rest e))

none_of_both : (b : Option BrokenPlace) (y : Option Violation) → option_or (says_if b) y ≡ None → b ≡ None
none_of_both None y e = refl
none_of_both (Some b) y e = cc

clash : (v : Violation) (b : Option BrokenPlace) → Some v ≡ None → b ≡ None
clash v b e = cc

-- no atom of a legal configuration breaks a rule
pub legal_first : (s : Shape) (p : PartsForm) → LegalFor s p → first_of s (sizes_of p) [] p.stages ≡ None
legal_first s p legal = by_head (head_holds p) refl where
  by_depth : head_holds p ≡ true → (d : Bool) → nat_eq (length p.stages) s.depth ≡ d → first_of s (sizes_of p) [] p.stages ≡ None
  by_depth h true d = none_of_both (first_of s (sizes_of p) [] p.stages) (outputs_say (s.depth + 1) (sizes_of p) (flat_map stage_targets p.stages) p.outputs) (sym (rest_broken s p h d) ∙ legal)
  by_depth h false d = clash (record { kind = kind.Depth; stage = 0; atom = 0 }) (first_of s (sizes_of p) [] p.stages) (sym (depth_broken s p h d) ∙ legal)

  by_head : (h : Bool) → head_holds p ≡ h → first_of s (sizes_of p) [] p.stages ≡ None
  by_head true h = by_depth h (nat_eq (length p.stages) s.depth) refl
  by_head false h = clash (record { kind = kind.BadNumber; stage = 0; atom = 0 }) (first_of s (sizes_of p) [] p.stages) (sym (head_broken s p h) ∙ legal)

-- no array of a legal configuration stands in two slots
pub legal_arrays : (s : Shape) (p : PartsForm) → LegalFor s p → are_new [] (flat_map stage_arrays p.stages) ≡ true
legal_arrays s p legal = stages_new s (sizes_of p) [] p.stages (legal_first s p legal)
