-- The first rule that is broken, by head, depth, stages and outputs.
use Rattle.std.proofs.Common.{◌≡◌, ℕ, ◌+◌, ◌≤◌, Bool, true, false, ◌&&◌, eqb, List, [], ◌∷◌, ◌++◌, Option, Some, None, length, length-append, map, refl, sym, ap, ◌∙◌, arith}
use Rattle.std.specs.Bool.{if◌then◌else◌}
use Rattle.std.specs.List.{flat_map, list_all}
use Rattle.std.specs.Option.{option_or}
use Rattle.std.specs.Prelude.{nat_eq, nat_le}
use Rattle.std.proofs.lemmas.Bool.{and_parts, leb-true}
use Rattle.atom_traits.specs.declared.tree.Port.{Port}
use Rattle.atom_traits.specs.Form.{TreesForm}
use Rattle.banzai_config.specs.declared.fault.ConfigKind.{ConfigKind}
use Rattle.banzai_config.specs.declared.fault.ConfigKind.TheVariants as kind
use Rattle.banzai_config.specs.declared.walk.BrokenAtom.{BrokenAtom}
use Rattle.banzai_config.specs.declared.walk.BrokenPlace.{BrokenPlace}
use Rattle.banzai_config.specs.Checked.{atom_says, first_output, outputs_say, says, says_if}
use Rattle.banzai_config.specs.Judged.{broken}
use Rattle.banzai_config.specs.Legal.{Rule, Shape, Sizes, Test, Violation, at, atom_rules, atom_tests, before_of, first_broken, head_holds, output_rules, output_tests, rules_of, sizes_of, stage_rules, standing_after, violation}
use Rattle.banzai_config.specs.Named.{stage_targets}
use Rattle.banzai_config.specs.Parts.{Atom, PartsForm, StageForm, atoms_of}
use Rattle.banzai_config.specs.Walked.{at_place, first_in, first_of, in_stage}

abbrev placed : ℕ → ℕ → Option ConfigKind → Option Violation
placed stage atom None = None
placed stage atom (Some k) = Some (record { kind = k; stage = stage; atom = atom })

pick : (b : Bool) (stage atom : ℕ) (x : Option Violation) (y : Option ConfigKind) (k : ConfigKind) → x ≡ placed stage atom y
    → (if b then x else Some (record { kind = k; stage = stage; atom = atom })) ≡ placed stage atom (if b then y else Some k)
pick true stage atom x y k e = e
pick false stage atom x y k e = refl

tests_at : (stage atom : ℕ) (ts : List Test) → first_broken (map (at stage atom) ts) ≡ placed stage atom (broken ts)
tests_at stage atom [] = refl
tests_at stage atom (t ∷ ts) = pick t.holds stage atom (first_broken (map (at stage atom) ts)) (broken ts) t.kind (tests_at stage atom ts)

or_kept : (b : Bool) (x y z v : Option Violation) (w : Violation) → x ≡ option_or y z → (if b then x else Some w) ≡ option_or (if b then y else Some w) z
or_kept true x y z v w e = e
or_kept false x y z v w e = refl

rules_or : (xs ys : List Rule) → first_broken (xs ++ ys) ≡ option_or (first_broken xs) (first_broken ys)
rules_or [] ys = refl
rules_or (r ∷ rs) ys =
    or_kept r.test.holds (first_broken (rs ++ ys)) (first_broken rs) (first_broken ys) None (record { kind = r.test.kind; stage = r.stage; atom = r.atom }) (rules_or rs ys)

join_atom : (k : Option ConfigKind) (stage n : ℕ) (rest : Option BrokenAtom) → option_or (placed stage (n + 1) k) (atom_says stage rest) ≡ atom_says stage (at_place k n rest)
join_atom None stage n rest = refl
join_atom (Some k) stage n rest = refl

join_stage : (b : Option BrokenAtom) (n : ℕ) (rest : Option BrokenPlace) → option_or (atom_says n b) (says_if rest) ≡ says_if (in_stage b n rest)
join_stage None n rest = refl
join_stage (Some b) n rest = refl

atoms_broken : (s : Shape) (z : Sizes) (stages : List StageForm) (before atoms : List Atom)
    → first_broken (flat_map (atom_rules s z stages) (standing_after before atoms)) ≡ atom_says (length stages + 1) (first_in s z stages before atoms)
atoms_broken s z stages before [] = refl
atoms_broken s z stages before (a ∷ atoms) =
    rules_or (atom_rules s z stages (record { before = before; item = a })) (flat_map (atom_rules s z stages) (standing_after (before ++ a ∷ []) atoms))
    ∙ ap (λ x. option_or x (first_broken (flat_map (atom_rules s z stages) (standing_after (before ++ a ∷ []) atoms)))) (tests_at (length stages + 1) (length before + 1) (atom_tests s z (before_of stages before) a))
    ∙ ap (λ y. option_or (placed (length stages + 1) (length before + 1) (broken (atom_tests s z (before_of stages before) a))) y) (atoms_broken s z stages (before ++ a ∷ []) atoms)
    ∙ join_atom (broken (atom_tests s z (before_of stages before) a)) (length stages + 1) (length before) (first_in s z stages (before ++ a ∷ []) atoms)

stages_broken : (s : Shape) (z : Sizes) (before stages : List StageForm) → first_broken (flat_map (stage_rules s z) (standing_after before stages)) ≡ says_if (first_of s z before stages)
stages_broken s z before [] = refl
stages_broken s z before (stage ∷ stages) =
    rules_or (stage_rules s z (record { before = before; item = stage })) (flat_map (stage_rules s z) (standing_after (before ++ stage ∷ []) stages))
    ∙ ap (λ x. option_or x (first_broken (flat_map (stage_rules s z) (standing_after (before ++ stage ∷ []) stages)))) (atoms_broken s z before [] (atoms_of stage))
    ∙ ap (λ y. option_or (atom_says (length before + 1) (first_in s z before [] (atoms_of stage))) y) (stages_broken s z (before ++ stage ∷ []) stages)
    ∙ join_stage (first_in s z before [] (atoms_of stage)) (length before + 1) (first_of s z (before ++ stage ∷ []) stages)

outputs_broken : (s : Shape) (z : Sizes) (written : List ℕ) (before outputs : List Port)
    → first_broken (flat_map (output_rules s z written) (standing_after before outputs)) ≡ atom_says (s.depth + 1) (first_output z written (length before) outputs)
outputs_broken s z written before [] = refl
outputs_broken s z written before (o ∷ outputs) =
    rules_or (output_rules s z written (record { before = before; item = o })) (flat_map (output_rules s z written) (standing_after (before ++ o ∷ []) outputs))
    ∙ ap (λ x. option_or x (first_broken (flat_map (output_rules s z written) (standing_after (before ++ o ∷ []) outputs)))) (tests_at (s.depth + 1) (length before + 1) (output_tests z written o))
    ∙ ap (λ y. option_or (placed (s.depth + 1) (length before + 1) (broken (output_tests z written o))) y)
    (outputs_broken s z written (before ++ o ∷ []) outputs ∙ ap (λ n. atom_says (s.depth + 1) (first_output z written n outputs)) (length-append before (o ∷ [])))
    ∙ join_atom (broken (output_tests z written o)) (s.depth + 1) (length before) (first_output z written (length before + 1) outputs)

-- what stages and outputs break
tail_broken : (s : Shape) (p : PartsForm)
    → first_broken (flat_map (stage_rules s (sizes_of p)) (standing_after [] p.stages) ++ (at (s.depth + 1) 0 (record { kind = kind.BadNumber; holds = nat_eq (length p.outputs) (length p.fields) }) ∷ flat_map (output_rules s (sizes_of p) (flat_map stage_targets p.stages)) (standing_after [] p.outputs)))
    ≡ option_or (says_if (first_of s (sizes_of p) [] p.stages)) (outputs_say (s.depth + 1) (sizes_of p) (flat_map stage_targets p.stages) p.outputs)
tail_broken s p =
    rules_or (flat_map (stage_rules s (sizes_of p)) (standing_after [] p.stages)) (at (s.depth + 1) 0 (record { kind = kind.BadNumber; holds = nat_eq (length p.outputs) (length p.fields) }) ∷ flat_map (output_rules s (sizes_of p) (flat_map stage_targets p.stages)) (standing_after [] p.outputs))
    ∙ ap (λ x. option_or x (if nat_eq (length p.outputs) (length p.fields) then first_broken (flat_map (output_rules s (sizes_of p) (flat_map stage_targets p.stages)) (standing_after [] p.outputs)) else Some (record { kind = kind.BadNumber; stage = s.depth + 1; atom = 0 })))
    (stages_broken s (sizes_of p) [] p.stages)
    ∙ ap (λ y. option_or (says_if (first_of s (sizes_of p) [] p.stages)) (if nat_eq (length p.outputs) (length p.fields) then y else Some (record { kind = kind.BadNumber; stage = s.depth + 1; atom = 0 })))
    (outputs_broken s (sizes_of p) (flat_map stage_targets p.stages) [] p.outputs)

if_true : {A : Type 0} (b : Bool) (x y : A) → b ≡ true → (if b then x else y) ≡ x
if_true true x y e = refl
if_true false x y e = cc

if_false : {A : Type 0} (b : Bool) (x y : A) → b ≡ false → (if b then x else y) ≡ y
if_false false x y e = refl
if_false true x y e = cc

abbrev tail_of : Shape → PartsForm → Option Violation
tail_of s p =
    first_broken (flat_map (stage_rules s (sizes_of p)) (standing_after [] p.stages) ++ (at (s.depth + 1) 0 (record { kind = kind.BadNumber; holds = nat_eq (length p.outputs) (length p.fields) }) ∷ flat_map (output_rules s (sizes_of p) (flat_map stage_targets p.stages)) (standing_after [] p.outputs)))

module _ (s : Shape) (p : PartsForm) where
  abbrev head_says : Violation
  head_says = record { kind = kind.BadNumber; stage = 0; atom = 0 }

  abbrev depth_says : Violation
  depth_says = record { kind = kind.Depth; stage = 0; atom = 0 }

  pub head_broken : head_holds p ≡ false → violation s p ≡ Some head_says
  head_broken e = if_false (head_holds p) (if nat_eq (length p.stages) s.depth then tail_of s p else Some depth_says) (Some head_says) e

  pub depth_broken : head_holds p ≡ true → nat_eq (length p.stages) s.depth ≡ false → violation s p ≡ Some depth_says
  depth_broken h e =
      if_true (head_holds p) (if nat_eq (length p.stages) s.depth then tail_of s p else Some depth_says) (Some head_says) h
      ∙ if_false (nat_eq (length p.stages) s.depth) (tail_of s p) (Some depth_says) e

  pub rest_broken : head_holds p ≡ true → nat_eq (length p.stages) s.depth ≡ true
      → violation s p ≡ option_or (says_if (first_of s (sizes_of p) [] p.stages)) (outputs_say (s.depth + 1) (sizes_of p) (flat_map stage_targets p.stages) p.outputs)
  rest_broken h e =
      if_true (head_holds p) (if nat_eq (length p.stages) s.depth then tail_of s p else Some depth_says) (Some head_says) h
      ∙ if_true (nat_eq (length p.stages) s.depth) (tail_of s p) (Some depth_says) e
      ∙ tail_broken s p

-- the numbers of a head that breaks no rule
pub few_fields : (p : PartsForm) → head_holds p ≡ true → length p.fields ≤ 64
few_fields p h = leb-true (length p.fields) 64 (and_parts _ _ (and_parts _ _ (and_parts _ _ h).0).1).0

pub few_arrays : (p : PartsForm) → head_holds p ≡ true → length p.arrays ≤ 32
few_arrays p h = leb-true (length p.arrays) 32 (and_parts _ _ (and_parts _ _ (and_parts _ _ (and_parts _ _ h).0).1).1).0
