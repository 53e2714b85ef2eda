-- A legal configuration has a text.
use Rattle.std.proofs.Common.{◌≡◌, ℕ, zero, suc, ◌+◌, ◌≤◌, ◌<◌, Bool, true, ◌&&◌, is_none, nat_eq, nat_le, List, [], ◌∷◌, ◌++◌, map, length, Option, Some, None, refl, sym, ◌∙◌, arith}
use Rattle.std.specs.List.{flat_map, list_all}
use Rattle.std.proofs.lemmas.Bool.{and_parts, and_from, eqb-true, leb-true, lt-ltb, ltb-true}
use Rattle.std.proofs.lemmas.List.Folds.{list_all-append, list_all-map}
use Rattle.dom_words.specs.Spelling.{is_name}
use Rattle.dom_words.specs.declared.array.Array.{Array}
use Rattle.atom_traits.specs.declared.operation.StatelessOp.{StatelessOp}
use Rattle.atom_traits.specs.declared.operation.StatelessOp.TheVariants as operation
use Rattle.atom_traits.specs.declared.tree.Leaf.{Leaf}
use Rattle.atom_traits.specs.declared.tree.Leaf.TheVariants as leaf
use Rattle.atom_traits.specs.declared.tree.Source.{Source}
use Rattle.atom_traits.specs.declared.tree.Source.TheVariants as source
use Rattle.atom_traits.specs.Fits.{if_else_form, is_any, is_low, is_low_if, is_raw, keeps_or_puts, nested_form, pairs_form, praw_form, raw_form, sub_form, write_form}
use Rattle.atom_traits.specs.Form.{Asks, count_of, Ends, TreeForm, TreesForm}
use Rattle.atom_traits.specs.Operation.{operation_has_args, ports_of}
use Rattle.atom_traits.specs.Tests.{any_port, guard_passes, leaf_passes, name_states, source_states, tree_passes, trees_pass}
use Rattle.banzai_config.specs.declared.fault.ConfigKind.TheVariants as kind
use Rattle.banzai_config.specs.declared.parts.OpAtom.{OpAtom}
use Rattle.banzai_config.specs.declared.parts.PartSlot.{PartSlot}
use Rattle.banzai_config.specs.declared.target.Geometry.{Geometry}
use Rattle.banzai_config.specs.declared.target.Geometry.TheVariants.{Small, Medium, Large}
use Rattle.banzai_config.specs.declared.target.Target.{Target}
use Rattle.banzai_config.specs.declared.target.Template.{Template}
use Rattle.banzai_config.specs.declared.target.Template.TheVariants as template
use Rattle.banzai_config.specs.Legal.{are_counts_right, are_names, at, atom_rules, atom_tests, before_of, Before, has_good_numbers, has_multiplier, has_narrow_constants, has_pattern, has_place, have_words, head_holds, is_fresh_name, is_modulus_small, is_there, LegalFor, name_of_array, output_rules, Rule, rules_of, Shape, Sizes, sizes_of, stage_rules, standing, standing_after, test}
use Rattle.banzai_config.specs.Named.{stage_targets}
use Rattle.banzai_config.specs.Parts.{Atom, AtomForm, atoms_of, PartsForm, StageForm, Stateful, Stateless}
use Rattle.banzai_config.specs.Targets.{bits_of, depth_of, name_of, shape_of, template_fits}
use Rattle.banzai_config.proofs.Lawful.{all_hold}
use Rattle.config_text.specs.Fronts.{stage_fits, atom_fits, text_of, TextOf}
use Rattle.config_text.specs.Lines.{array, atom_lines, field, line_fits, op, out, slot, stage_lines, stages_from, the_end}
use Rattle.config_text.specs.Small.{has_small_numbers, is_array_small, is_atom_small, is_op_small, is_slot_small, is_source_small, is_stage_small}
use Rattle.config_text.specs.Words.{is_small, is_target_word, leaf_fits, op_fits, port_fits, source_fits, tree_fits}

-- what the rules say of an atom by itself
abbrev pub is_good : Shape → Atom → Bool
is_good s a = has_good_numbers a && has_pattern s a

abbrev pub rule_holds : Rule → Bool
rule_holds r = r.test.holds

atom_good : (s : Shape) (z : Sizes) (before : Before) (a : Atom) (i j : ℕ) → list_all rule_holds (map (at i j) (atom_tests s z before a)) ≡ true → is_good s a ≡ true
atom_good s z before a i j h =
    let one = and_parts (has_place s before a) _ h in
    let two = and_parts (is_there z a) _ one.1 in
    let three = and_parts (has_multiplier s a) _ two.1 in
    let four = and_parts (has_narrow_constants s a) _ three.1 in
    let five = and_parts (has_pattern s a) _ four.1 in
    let there = and_parts _ _ (and_parts _ _ two.0).1 in
    and_from _ _ there.1 five.0

atoms_good : (s : Shape) (z : Sizes) (stages : List StageForm) (before atoms : List Atom) → list_all rule_holds (flat_map (atom_rules s z stages) (standing_after before atoms)) ≡ true → list_all (is_good s) atoms ≡ true
atoms_good s z stages before [] h = refl
atoms_good s z stages before (a ∷ atoms) h =
    let here = atom_rules s z stages (record { before = before; item = a }) in
    let more = flat_map (atom_rules s z stages) (standing_after (before ++ a ∷ []) atoms) in
    let both = and_parts (list_all rule_holds here) (list_all rule_holds more) (sym (list_all-append rule_holds here more) ∙ h) in
    and_from _ _ (atom_good s z (before_of stages before) a (length stages + 1) (length before + 1) both.0) (atoms_good s z stages (before ++ a ∷ []) atoms both.1)

stages_good : (s : Shape) (z : Sizes) (before stages : List StageForm) → list_all rule_holds (flat_map (stage_rules s z) (standing_after before stages)) ≡ true → list_all (λ (t : StageForm). list_all (is_good s) (atoms_of t)) stages ≡ true
stages_good s z before [] h = refl
stages_good s z before (t ∷ stages) h =
    let here = stage_rules s z (record { before = before; item = t }) in
    let more = flat_map (stage_rules s z) (standing_after (before ++ t ∷ []) stages) in
    let both = and_parts (list_all rule_holds here) (list_all rule_holds more) (sym (list_all-append rule_holds here more) ∙ h) in
    and_from _ _ (atoms_good s z before [] (atoms_of t) both.0) (stages_good s z (before ++ t ∷ []) stages both.1)

-- trees
low_more : (p : Leaf → Bool) (d e : ℕ) (t : TreeForm) → d ≤ e → is_low p d t ≡ true → is_low is_any e t ≡ true
low_more p d e (Ends l) h low = refl
low_more p zero e (Asks g y n) h low = cc
low_more p (suc d) zero (Asks g y n) h low = absurd (omega arith)
low_more p (suc d) (suc e) (Asks g y n) h low =
    let both = and_parts (is_low p d y) (is_low p d n) low in
    and_from _ _ (low_more p d e y (omega arith) both.0) (low_more p d e n (omega arith) both.1)

none_low : (o : Option TreeForm) → is_none o ≡ true → is_low_if is_any 2 o ≡ true
none_low None h = refl
none_low (Some t) h = cc

abbrev are_low : TreesForm → Bool
are_low t = is_low is_any 2 t.first && is_low_if is_any 2 t.second

one_low : (p : Leaf → Bool) (d : ℕ) (t : TreesForm) → d ≤ 2 → is_none t.second ≡ true → is_low p d t.first ≡ true → are_low t ≡ true
one_low p d t h none low = and_from _ _ (low_more p d 2 t.first h low) (none_low t.second none)

template_low : (x : Template) (bits : ℕ) (t : TreesForm) → template_fits x bits t ≡ true → are_low t ≡ true
template_low template.Write bits t h = let form = (and_parts (write_form t) _ h).0 in let both = and_parts (is_none t.second) _ form in one_low keeps_or_puts 0 t (omega arith) both.0 both.1
template_low template.Raw bits t h = let form = (and_parts (raw_form t) _ h).0 in let both = and_parts (is_none t.second) _ form in one_low is_raw 0 t (omega arith) both.0 both.1
template_low template.Praw bits t h =
    let form = (and_parts (praw_form t) _ h).0 in
    let both = and_parts (is_none t.second) _ form in
    one_low is_raw 1 t (omega arith) both.0 (and_parts (is_low is_raw 1 t.first) _ both.1).0
template_low template.IfElse bits t h = let form = (and_parts (if_else_form t) _ h).0 in let both = and_parts (is_none t.second) _ form in one_low is_raw 1 t (omega arith) both.0 both.1
template_low template.Sub bits t h = let form = (and_parts (sub_form t) _ h).0 in let both = and_parts (is_none t.second) _ form in one_low is_any 1 t (omega arith) both.0 both.1
template_low template.Nested bits t h = let form = (and_parts (nested_form t) _ h).0 in let both = and_parts (is_none t.second) _ form in one_low is_any 2 t (omega arith) both.0 both.1
template_low template.Pairs bits t h = (and_parts (pairs_form t) _ h).0

leaf_ok : (l : Leaf) → leaf_passes port_fits is_source_small l ≡ true → leaf_fits l ≡ true
leaf_ok leaf.Keep h = refl
leaf_ok (leaf.Put p) h = h
leaf_ok (leaf.Add p) h = h
leaf_ok (leaf.Sub p) h = h

source_ok : (slots : ℕ) (x : Source) → slots ≤ 2 → source_states slots x ≡ true → is_source_small x ≡ true → source_fits x ≡ true
source_ok slots (source.Const n) h states small = small
source_ok slots (source.Container n) h states small = small
source_ok slots (source.State k) h states small = lt-ltb k 2 (let less = ltb-true k slots states in omega arith)

tree_ok : (slots levels : ℕ) (t : TreeForm) → slots ≤ 2 → is_low is_any levels t ≡ true → tree_passes any_port (source_states slots) t ≡ true → tree_passes port_fits is_source_small t ≡ true → tree_fits levels t ≡ true
tree_ok slots levels (Ends l) h low states small = leaf_ok l small
tree_ok slots zero (Asks g y n) h low states small = cc
tree_ok slots (suc levels) (Asks g y n) h low states small =
    let lows = and_parts (is_low is_any levels y) (is_low is_any levels n) low in
    let named = and_parts (guard_passes any_port (source_states slots) g) _ states in
    let guards = and_parts (source_states slots g.left) (source_states slots g.right) named.0 in
    let branches = and_parts (tree_passes any_port (source_states slots) y) (tree_passes any_port (source_states slots) n) named.1 in
    let smalls = and_parts (guard_passes port_fits is_source_small g) _ small in
    let sources = and_parts (is_source_small g.left) (is_source_small g.right) smalls.0 in
    let trees = and_parts (tree_passes port_fits is_source_small y) (tree_passes port_fits is_source_small n) smalls.1 in
    and_from _ _ (source_ok slots g.left h guards.0 sources.0)
    (and_from _ _ (source_ok slots g.right h guards.1 sources.1)
    (and_from _ _ (tree_ok slots levels y h lows.0 branches.0 trees.0) (tree_ok slots levels n h lows.1 branches.1 trees.1)))

-- the lines of an atom with state
slot_ok : (s : PartSlot) (t : TreeForm) → is_slot_small s ≡ true → tree_fits 2 t ≡ true → line_fits (slot s t) ≡ true
slot_ok s t small fits =
    let one = and_parts (is_small s.array) _ small in
    let two = and_parts (port_fits s.index) _ one.1 in
    let three = and_parts _ _ two.1 in
    and_from _ _ one.0 (and_from _ _ two.0 (and_from _ _ three.0 (and_from _ _ three.1 fits)))

-- slots and trees in pairs, and their lines
record IsAtomWritten (a : AtomForm) : Type 0 where
  paired : atom_fits a ≡ true
  lines : list_all line_fits (atom_lines a) ≡ true

atom_ok : (slots : List PartSlot) (first : TreeForm) (second : Option TreeForm)
    → nat_eq (count_of (record { first = first; second = second })) (length slots) ≡ true
    → are_low (record { first = first; second = second }) ≡ true
    → name_states (length slots) (record { first = first; second = second }) ≡ true
    → is_atom_small (record { slots = slots; trees = record { first = first; second = second } }) ≡ true
    → IsAtomWritten (record { slots = slots; trees = record { first = first; second = second } })
atom_ok [] first None count low states small = absurd (cc)
atom_ok [] first (Some u) count low states small = absurd (cc)
atom_ok (s ∷ []) first (Some u) count low states small = absurd (cc)
atom_ok (s ∷ r ∷ []) first None count low states small = absurd (cc)
atom_ok (s ∷ r ∷ q ∷ more) first None count low states small = absurd (let e = eqb-true 1 (length (s ∷ r ∷ q ∷ more)) count in omega arith)
atom_ok (s ∷ r ∷ q ∷ more) first (Some u) count low states small = absurd (let e = eqb-true 2 (length (s ∷ r ∷ q ∷ more)) count in omega arith)
atom_ok (s ∷ []) first None count low states small =
    let lows = and_parts (is_low is_any 2 first) true low in
    let named = and_parts (tree_passes any_port (source_states 1) first) true states in
    let smalls = and_parts (list_all is_slot_small (s ∷ [])) (trees_pass port_fits is_source_small (record { first = first; second = None })) small in
    let slots = and_parts (is_slot_small s) true smalls.0 in
    let trees = and_parts (tree_passes port_fits is_source_small first) true smalls.1 in
    record {
      paired = refl;
      lines = and_from _ _ refl (and_from _ _ (slot_ok s first slots.0 (tree_ok 1 2 first (omega arith) lows.0 named.0 trees.0)) refl);
    }
atom_ok (s ∷ r ∷ []) first (Some u) count low states small =
    let lows = and_parts (is_low is_any 2 first) (is_low is_any 2 u) low in
    let named = and_parts (tree_passes any_port (source_states 2) first) (tree_passes any_port (source_states 2) u) states in
    let smalls = and_parts (list_all is_slot_small (s ∷ r ∷ [])) (trees_pass port_fits is_source_small (record { first = first; second = Some u })) small in
    let slots = and_parts (is_slot_small s) (list_all is_slot_small (r ∷ [])) smalls.0 in
    let next = and_parts (is_slot_small r) true slots.1 in
    let trees = and_parts (tree_passes port_fits is_source_small first) (tree_passes port_fits is_source_small u) smalls.1 in
    record {
      paired = refl;
      lines =
          and_from _ _ refl
          (and_from _ _ (slot_ok s first slots.0 (tree_ok 2 2 first (omega arith) lows.0 named.0 trees.0))
          (and_from _ _ (slot_ok r u next.0 (tree_ok 2 2 u (omega arith) lows.1 named.1 trees.1)) refl));
    }

good_atom : (t : Target) (a : AtomForm) → is_good (shape_of t) (Stateful a) ≡ true → is_atom_small a ≡ true → IsAtomWritten a
good_atom t a good small =
    let both = and_parts (name_states (length a.slots) a.trees) _ good in
    let pattern = and_parts (nat_eq (count_of a.trees) (length a.slots)) _ both.1 in
    atom_ok a.slots a.trees.first a.trees.second pattern.0 (template_low t.template (bits_of t.geometry) a.trees pattern.1) both.0 small

record AreAtomsWritten (as_ : List AtomForm) : Type 0 where
  paired : list_all atom_fits as_ ≡ true
  lines : list_all line_fits (flat_map atom_lines as_) ≡ true

good_atoms : (t : Target) (as_ : List AtomForm) → list_all (is_good (shape_of t)) (map (λ a. Stateful a) as_) ≡ true → list_all is_atom_small as_ ≡ true → AreAtomsWritten as_
good_atoms t [] good small = record { paired = refl; lines = refl }
good_atoms t (a ∷ as_) good small =
    let goods = and_parts (is_good (shape_of t) (Stateful a)) _ good in
    let smalls = and_parts (is_atom_small a) (list_all is_atom_small as_) small in
    let here = good_atom t a goods.0 smalls.0 in
    let more = good_atoms t as_ goods.1 smalls.1 in
    record {
      paired = and_from _ _ here.paired more.paired;
      lines = list_all-append line_fits (atom_lines a) (flat_map atom_lines as_) ∙ and_from _ _ here.lines more.lines;
    }

-- the lines of atoms without state
op_ok : (a : OpAtom) → (operation_has_args a.op && is_modulus_small a.op) ≡ true → list_all port_fits (ports_of a.op) ≡ true → op_fits a.op ≡ true
op_ok a good small = from a.op good small
  where
    from : (o : StatelessOp) → (operation_has_args o && is_modulus_small o) ≡ true → list_all port_fits (ports_of o) ≡ true → op_fits o ≡ true
    from (operation.Un o x) good small = (and_parts (port_fits x) true small).0
    from (operation.Bin o x y) good small = let both = and_parts (port_fits x) _ small in and_from _ _ both.0 (and_parts (port_fits y) true both.1).0
    from (operation.Cond c x y) good small =
        let one = and_parts (port_fits c) _ small in
        let two = and_parts (port_fits x) _ one.1 in
        and_from _ _ one.0 (and_from _ _ two.0 (and_parts (port_fits y) true two.1).0)
    from (operation.Hash unit modulus args) good small = let both = and_parts (nat_eq (length args) unit.args) _ good in and_from _ _ both.1 (and_from _ _ both.0 small)

good_ops : (s : Shape) (xs : List OpAtom) → list_all (is_good s) (map (λ a. Stateless a) xs) ≡ true → list_all is_op_small xs ≡ true → list_all line_fits (map op xs) ≡ true
good_ops s [] good small = refl
good_ops s (a ∷ xs) good small =
    let goods = and_parts (is_good s (Stateless a)) _ good in
    let smalls = and_parts (is_op_small a) (list_all is_op_small xs) small in
    let numbers = and_parts (is_small a.to) _ smalls.0 in
    and_from _ _ (and_from _ _ numbers.0 (op_ok a (and_parts (has_good_numbers (Stateless a)) _ goods.0).0 numbers.1)) (good_ops s xs goods.1 smalls.1)

-- the lines of stages
record AreStagesWritten (k : ℕ) (ss : List StageForm) : Type 0 where
  paired : list_all stage_fits ss ≡ true
  lines : list_all line_fits (stages_from k ss) ≡ true

good_stages : (t : Target) (k : ℕ) (ss : List StageForm) → k + length ss < 4294967296 → list_all (λ (x : StageForm). list_all (is_good (shape_of t)) (atoms_of x)) ss ≡ true → list_all is_stage_small ss ≡ true → AreStagesWritten k ss
good_stages t k [] few good small = record { paired = refl; lines = refl }
good_stages t k (x ∷ ss) few good small =
    let goods = and_parts (list_all (is_good (shape_of t)) (atoms_of x)) _ good in
    let parts =
    and_parts (list_all (is_good (shape_of t)) (map (λ a. Stateless a) x.stateless)) (list_all (is_good (shape_of t)) (map (λ a. Stateful a) x.stateful))
    (sym (list_all-append (is_good (shape_of t)) (map (λ a. Stateless a) x.stateless) (map (λ a. Stateful a) x.stateful)) ∙ goods.0) in
    let smalls = and_parts (is_stage_small x) (list_all is_stage_small ss) small in
    let numbers = and_parts (list_all is_op_small x.stateless) (list_all is_atom_small x.stateful) smalls.0 in
    let atoms = good_atoms t x.stateful parts.1 numbers.1 in
    let more = good_stages t (k + 1) ss (omega arith) goods.1 smalls.1 in
    record {
      paired = and_from _ _ atoms.paired more.paired;
      lines =
          and_from _ _ (lt-ltb k 4294967296 (omega arith))
          (list_all-append line_fits (stage_lines x) (stages_from (k + 1) ss)
          ∙ and_from _ _ (list_all-append line_fits (map op x.stateless) (flat_map atom_lines x.stateful) ∙ and_from _ _ (good_ops (shape_of t) x.stateless parts.0 numbers.0) atoms.lines) more.lines);
    }

-- of all atoms of a legal configuration
pub legal_stages : (t : Target) (p : PartsForm) → LegalFor (shape_of t) p → list_all (λ (x : StageForm). list_all (is_good (shape_of t)) (atoms_of x)) p.stages ≡ true
legal_stages t p legal =
    let s = shape_of t in
    let z = sizes_of p in
    let outs = flat_map (output_rules s z (flat_map stage_targets p.stages)) (standing p.outputs) in
    let behind = at (s.depth + 1) 0 (test kind.BadNumber (nat_eq (length p.outputs) (length p.fields))) ∷ outs in
    let stages = flat_map (stage_rules s z) (standing p.stages) in
    let one = and_parts (head_holds p) _ (all_hold (rules_of s p) legal) in
    let two = and_parts (nat_eq (length p.stages) s.depth) _ one.1 in
    let three = and_parts (list_all rule_holds stages) (list_all rule_holds behind) (sym (list_all-append rule_holds stages behind) ∙ two.1) in
    stages_good s z [] p.stages three.0

-- names
good_names : (before names : List (List ℕ)) → list_all is_fresh_name (standing_after before names) ≡ true → list_all is_name names ≡ true
good_names before [] h = refl
good_names before (name ∷ names) h =
    let both = and_parts (is_fresh_name (record { before = before; item = name })) _ h in
    and_from _ _ (and_parts (is_name name) _ both.0).0 (good_names (before ++ name ∷ []) names both.1)

good_arrays : (xs : List Array) → list_all is_name (map name_of_array xs) ≡ true → list_all is_array_small xs ≡ true → list_all line_fits (map array xs) ≡ true
good_arrays [] named small = refl
good_arrays (a ∷ xs) named small =
    let names = and_parts (is_name a.name) _ named in
    let smalls = and_parts (is_array_small a) (list_all is_array_small xs) small in
    and_from _ _ (and_from _ _ names.0 smalls.0) (good_arrays xs names.1 smalls.1)

target_word : (x : Template) (g : Geometry) → is_target_word (name_of (record { template = x; geometry = g })) ≡ true
target_word template.Write Small = refl
target_word template.Write Medium = refl
target_word template.Write Large = refl
target_word template.Raw Small = refl
target_word template.Raw Medium = refl
target_word template.Raw Large = refl
target_word template.Praw Small = refl
target_word template.Praw Medium = refl
target_word template.Praw Large = refl
target_word template.IfElse Small = refl
target_word template.IfElse Medium = refl
target_word template.IfElse Large = refl
target_word template.Sub Small = refl
target_word template.Sub Medium = refl
target_word template.Sub Large = refl
target_word template.Nested Small = refl
target_word template.Nested Medium = refl
target_word template.Nested Large = refl
target_word template.Pairs Small = refl
target_word template.Pairs Medium = refl
target_word template.Pairs Large = refl

deep : (g : Geometry) → (1 ≤ depth_of g) × (depth_of g ≤ 32)
deep Small = (omega arith, omega arith)
deep Medium = (omega arith, omega arith)
deep Large = (omega arith, omega arith)

-- a legal configuration for a target, whose numbers are words, has a text
pub legal_text : (t : Target) (p : PartsForm) → LegalFor (shape_of t) p → has_small_numbers p ≡ true → TextOf t p (text_of t p)
legal_text t p legal small =
    let s = shape_of t in
    let z = sizes_of p in
    let outs = flat_map (output_rules s z (flat_map stage_targets p.stages)) (standing p.outputs) in
    let rules = all_hold (rules_of s p) legal in
    let one = and_parts (head_holds p) _ rules in
    let two = and_parts (nat_eq (length p.stages) s.depth) _ one.1 in
    let behind = at (s.depth + 1) 0 (test kind.BadNumber (nat_eq (length p.outputs) (length p.fields))) ∷ outs in
    let stages = flat_map (stage_rules s z) (standing p.stages) in
    let three = and_parts (list_all rule_holds stages) (list_all rule_holds behind) (sym (list_all-append rule_holds stages behind) ∙ two.1) in
    let four = and_parts (nat_eq (length p.outputs) (length p.fields)) _ three.1 in
    let heads = and_parts (are_counts_right p) _ one.0 in
    let names = and_parts (are_names (map name_of_array p.arrays)) (are_names p.fields) heads.1 in
    let some = and_parts (nat_le 1 (length p.fields)) _ heads.0 in
    let few_fields = and_parts (nat_le (length p.fields) 64) _ some.1 in
    let few_arrays = and_parts (nat_le (length p.arrays) 32) _ few_fields.1 in
    let words = and_parts (have_words p.arrays) _ few_arrays.1 in
    let room = and_parts (nat_le (length p.fields) p.containers) (nat_le p.containers 2048) words.1 in
    let containers_few = leb-true p.containers 2048 room.1 in
    let depth = eqb-true (length p.stages) s.depth two.0 in
    let range = deep t.geometry in
    let low = range.0 in
    let high = range.1 in
    let smalls = and_parts (list_all is_array_small p.arrays) _ small in
    let rest_small = and_parts (list_all is_stage_small p.stages) (list_all port_fits p.outputs) smalls.1 in
    let written = good_stages t 1 p.stages (omega arith) (stages_good s z [] p.stages three.0) rest_small.0 in
    let fields = list_all-map line_fits field p.fields ∙ good_names [] p.fields names.1 in
    let arrays = good_arrays p.arrays (good_names [] (map name_of_array p.arrays) names.0) smalls.0 in
    let outputs = list_all-map line_fits out p.outputs ∙ rest_small.1 in (
      record {
        fields = leb-true 1 (length p.fields) some.0;
        stages = omega arith;
        outputs = eqb-true (length p.outputs) (length p.fields) four.0;
        atoms = written.paired;
        lines =
            and_from _ _ refl
            (and_from _ _ (target_word t.template t.geometry)
            (list_all-append line_fits (map field p.fields) _ ∙ and_from _ _ fields
            (list_all-append line_fits (map array p.arrays) _ ∙ and_from _ _ arrays
            (and_from _ _ (lt-ltb p.containers 4294967296 (omega arith))
            (list_all-append line_fits (stages_from 1 p.stages) _ ∙ and_from _ _ written.lines
            (list_all-append line_fits (map out p.outputs) (the_end ∷ []) ∙ and_from _ _ outputs refl))))));
      },
      refl,
    )
