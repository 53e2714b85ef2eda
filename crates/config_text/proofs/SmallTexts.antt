-- Of a legal configuration each number has a place in the text.
use Rattle.std.proofs.Common.{◌≡◌, ℕ, true, nat_eq, List, [], ◌∷◌, map, length, Option, Some, None, refl, sym, ap, ◌∙◌, arith}
use Rattle.std.specs.List.{list_all}
use Rattle.std.proofs.lemmas.Bool.{and_parts, and_from, eqb-true}
use Rattle.std.proofs.lemmas.List.Folds.{list_all-append}
use Rattle.atom_traits.specs.Form.{count_of, TreeForm}
use Rattle.banzai_config.specs.declared.parts.PartSlot.{PartSlot}
use Rattle.banzai_config.specs.declared.target.Target.{Target}
use Rattle.banzai_config.specs.Legal.{LegalFor, Shape}
use Rattle.banzai_config.specs.Parts.{AtomForm, atoms_of, PartsForm, StageForm, Stateful, Stateless}
use Rattle.banzai_config.specs.Targets.{shape_of}
use Rattle.config_text.specs.Fronts.{text_of, TextOf}
use Rattle.config_text.specs.Small.{has_small_numbers, is_array_small, is_atom_small, is_op_small, is_slot_small, is_stage_small}
use Rattle.config_text.specs.Words.{port_fits}
use Rattle.config_text.specs.Writer.{are_numbers_written, are_slots_written, is_atom_written, is_slot_written, is_stage_written, is_tree_small}
use Rattle.config_text.proofs.LegalTexts.{is_good, legal_stages, legal_text}

-- one slot and one tree, or two of each, stand in the text whole
slots_small : (slots : List PartSlot) (first : TreeForm) (second : Option TreeForm)
    → nat_eq (count_of (record { first = first; second = second })) (length slots) ≡ true
    → are_slots_written slots first second ≡ true
    → is_atom_small (record { slots = slots; trees = record { first = first; second = second } }) ≡ true
slots_small [] first None count small = absurd (cc)
slots_small [] first (Some u) count small = absurd (cc)
slots_small (s ∷ []) first (Some u) count small = absurd (cc)
slots_small (s ∷ r ∷ []) first None count small = absurd (cc)
slots_small (s ∷ r ∷ q ∷ more) first None count small = absurd (let e = eqb-true 1 (length (s ∷ r ∷ q ∷ more)) count in omega arith)
slots_small (s ∷ r ∷ q ∷ more) first (Some u) count small = absurd (let e = eqb-true 2 (length (s ∷ r ∷ q ∷ more)) count in omega arith)
slots_small (s ∷ []) first None count small =
    let here = and_parts (is_slot_small s) (is_tree_small first) (and_parts (is_slot_written s first) true small).0 in
    and_from _ _ (and_from _ _ here.0 refl) (and_from _ _ here.1 refl)
slots_small (s ∷ r ∷ []) first (Some u) count small =
    let both = and_parts (is_slot_written s first) (is_slot_written r u) small in
    let one = and_parts (is_slot_small s) (is_tree_small first) both.0 in
    let two = and_parts (is_slot_small r) (is_tree_small u) both.1 in
    and_from _ _ (and_from _ _ one.0 (and_from _ _ two.0 refl)) (and_from _ _ one.1 two.1)

atoms_small : (s : Shape) (as_ : List AtomForm) → list_all (is_good s) (map (λ a. Stateful a) as_) ≡ true → list_all is_atom_written as_ ≡ true → list_all is_atom_small as_ ≡ true
atoms_small s [] good small = refl
atoms_small s (a ∷ as_) good small =
    let goods = and_parts (is_good s (Stateful a)) _ good in
    let smalls = and_parts (is_atom_written a) (list_all is_atom_written as_) small in
    let pattern = and_parts (nat_eq (count_of a.trees) (length a.slots)) _ (and_parts _ _ goods.0).1 in
    and_from _ _ (slots_small a.slots a.trees.first a.trees.second pattern.0 smalls.0) (atoms_small s as_ goods.1 smalls.1)

stages_small : (s : Shape) (ss : List StageForm) → list_all (λ (x : StageForm). list_all (is_good s) (atoms_of x)) ss ≡ true → list_all is_stage_written ss ≡ true → list_all is_stage_small ss ≡ true
stages_small s [] good small = refl
stages_small s (x ∷ ss) good small =
    let goods = and_parts (list_all (is_good s) (atoms_of x)) _ good in
    let parts =
    and_parts (list_all (is_good s) (map (λ a. Stateless a) x.stateless)) (list_all (is_good s) (map (λ a. Stateful a) x.stateful))
    (sym (list_all-append (is_good s) (map (λ a. Stateless a) x.stateless) (map (λ a. Stateful a) x.stateful)) ∙ goods.0) in
    let smalls = and_parts (is_stage_written x) (list_all is_stage_written ss) small in
    let here = and_parts (list_all is_op_small x.stateless) (list_all is_atom_written x.stateful) smalls.0 in
    and_from _ _ (and_from _ _ here.0 (atoms_small s x.stateful parts.1 here.1)) (stages_small s ss goods.1 smalls.1)

numbers_small : (t : Target) (p : PartsForm) → LegalFor (shape_of t) p → are_numbers_written p ≡ true → has_small_numbers p ≡ true
numbers_small t p legal small =
    let one = and_parts (list_all is_array_small p.arrays) _ small in
    let two = and_parts (list_all is_stage_written p.stages) (list_all port_fits p.outputs) one.1 in
    and_from _ _ one.0 (and_from _ _ (stages_small (shape_of t) p.stages (legal_stages t p legal) two.0) two.1)

-- what was written is a text where the configuration is legal
pub written_legal : (t : Target) (p q : PartsForm) (bytes : List ℕ) → p ≡ q → are_numbers_written p ≡ true → bytes ≡ text_of t q → LegalFor (shape_of t) q → TextOf t q bytes
written_legal t p q bytes same small e legal =
    ((legal_text t q legal (numbers_small t q legal (sym (ap are_numbers_written same) ∙ small))).0, e)
