-- Multipliers that a configuration does not use do no harm.
use Rattle.std.proofs.Common.{◌≡◌, ℕ, ◌+◌, Bool, true, false, ◌&&◌, Some, None, List, [], ◌∷◌, ◌++◌, drop, length, map, refl, sym, ◌∙◌, ap}
use Rattle.std.specs.Bool.{if◌then◌else◌}
use Rattle.std.specs.List.{flat_map, list_all}
use Rattle.std.specs.Prelude.{nat_eq}
use Rattle.std.proofs.lemmas.Bool.{and_from, and_parts}
use Rattle.std.proofs.lemmas.List.Folds.{list_all-append}
use Rattle.atom_traits.specs.Form.{TreesForm}
use Rattle.banzai_config.specs.Checked.{shape_with}
use Rattle.banzai_config.specs.Legal.{Before, LegalFor, Rule, Shape, Sizes, Standing, Violation, at, atom_rules, atom_tests, before_of, first_broken, has_multiplier, has_place, head_holds, is_there, output_rules, rules_of, sizes_of, stage_rules, standing, standing_after}
use Rattle.banzai_config.specs.Named.{stage_targets}
use Rattle.banzai_config.specs.Parts.{Atom, PartsForm, Stateful, Stateless, StageForm, atoms_of}
use Rattle.banzai_config.proofs.Lawful.{all_hold}

abbrev pub hold : List Rule → Bool
hold rules = list_all (λ (r : Rule). r.test.holds) rules

none_broken : (rules : List Rule) → hold rules ≡ true → first_broken rules ≡ None
none_broken [] e = refl
none_broken (r ∷ rules) e =
    let both = and_parts r.test.holds (hold rules) e in
    ap (λ (b : Bool). if b then first_broken rules else Some (record { kind = r.test.kind; stage = r.stage; atom = r.atom })) both.0 ∙ none_broken rules both.1

third : (a b c rest : Bool) → (a && (b && (c && rest))) ≡ true → (a && (b && rest)) ≡ true
third true true true rest e = e
third true true false rest e = cc
third true false c rest e = cc
third false b c rest e = cc

both_parts : (xs ys : List Rule) → hold (xs ++ ys) ≡ true → (hold xs ≡ true) × (hold ys ≡ true)
both_parts xs ys e = and_parts (hold xs) (hold ys) (sym (list_all-append (λ (r : Rule). r.test.holds) xs ys) ∙ e)

from_parts : (xs ys : List Rule) → hold xs ≡ true → hold ys ≡ true → hold (xs ++ ys) ≡ true
from_parts xs ys d e = list_all-append (λ (r : Rule). r.test.holds) xs ys ∙ and_from (hold xs) (hold ys) d e

module _ (fits : TreesForm → Bool) (bits depth stateless stateful : ℕ) where
  abbrev target : Bool → Shape
  target multiplies = shape_with fits bits depth stateless stateful multiplies

  module _ (z : Sizes) where
    atom_holds : (n m : ℕ) (before : Before) (a : Atom) → hold (map (at n m) (atom_tests (target false) z before a)) ≡ true → hold (map (at n m) (atom_tests (target true) z before a)) ≡ true
    atom_holds n m before (Stateless a) e =
        third (has_place (target false) before (Stateless a)) (is_there z (Stateless a)) (has_multiplier (target false) (Stateless a))
        (hold (drop 3 (map (at n m) (atom_tests (target false) z before (Stateless a))))) e
    atom_holds n m before (Stateful a) e = e

    atoms_hold : (stages : List StageForm) (before atoms : List Atom) → hold (flat_map (atom_rules (target false) z stages) (standing_after before atoms)) ≡ true
        → hold (flat_map (atom_rules (target true) z stages) (standing_after before atoms)) ≡ true
    atoms_hold stages before [] e = refl
    atoms_hold stages before (a ∷ atoms) e =
        let s : Standing Atom = record { before = before; item = a } in
        let both = both_parts (atom_rules (target false) z stages s) (flat_map (atom_rules (target false) z stages) (standing_after (before ++ a ∷ []) atoms)) e in
        from_parts (atom_rules (target true) z stages s) (flat_map (atom_rules (target true) z stages) (standing_after (before ++ a ∷ []) atoms))
        (atom_holds (length stages + 1) (length before + 1) (before_of stages before) a both.0) (atoms_hold stages (before ++ a ∷ []) atoms both.1)

    stages_hold : (before stages : List StageForm) → hold (flat_map (stage_rules (target false) z) (standing_after before stages)) ≡ true
        → hold (flat_map (stage_rules (target true) z) (standing_after before stages)) ≡ true
    stages_hold before [] e = refl
    stages_hold before (stage ∷ stages) e =
        let s : Standing StageForm = record { before = before; item = stage } in
        let both = both_parts (stage_rules (target false) z s) (flat_map (stage_rules (target false) z) (standing_after (before ++ stage ∷ []) stages)) e in
        from_parts (stage_rules (target true) z s) (flat_map (stage_rules (target true) z) (standing_after (before ++ stage ∷ []) stages))
        (atoms_hold before [] (atoms_of stage) both.0) (stages_hold (before ++ stage ∷ []) stages both.1)

  pub legal_with : (p : PartsForm) → LegalFor (target false) p → LegalFor (target true) p
  legal_with p legal =
      let z : Sizes = sizes_of p in
      let head = and_parts (head_holds p) _ (all_hold (rules_of (target false) p) legal) in
      let deep = and_parts (nat_eq (length p.stages) depth) _ head.1 in
      let both = both_parts (flat_map (stage_rules (target false) z) (standing p.stages)) _ deep.1 in
      none_broken (rules_of (target true) p)
      (and_from (head_holds p) _ head.0
      (and_from (nat_eq (length p.stages) depth) _ deep.0
      (from_parts (flat_map (stage_rules (target true) z) (standing p.stages)) _ (stages_hold z [] p.stages both.0) both.1)))
