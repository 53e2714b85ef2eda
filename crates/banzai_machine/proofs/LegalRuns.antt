-- A legal configuration can be run: every container and array that it names is there.
use Rattle.std.proofs.Common.{◌≡◌, ℕ, zero, suc, ◌<◌, ◌≤◌, Bool, true, ◌&&◌, Option, Some, None, List, [], ◌∷◌, ◌++◌, length, map, slice_index, refl, sym, ◌∙◌, arith}
use Rattle.std.proofs.lemmas.Bool.{and_from, and_parts, eqb-true, leb-true, ltb-true}
use Rattle.std.proofs.lemmas.List.{length-map}
use Rattle.std.proofs.lemmas.List.Folds.{list_all-append}
use Rattle.std.specs.List.{flat_map, list_all, AllByRecursion as Every}
use Rattle.std.specs.Option.{option_to_list}
use Rattle.std.specs.Prelude.{nat_eq, nat_le, nat_lt}
use Rattle.dom_words.specs.State.{state_words}
use Rattle.dom_words.specs.declared.array.Array.{Array}
use Rattle.atom_traits.specs.declared.tree.Guard.{Guard}
use Rattle.atom_traits.specs.declared.tree.Leaf.{Leaf}
use Rattle.atom_traits.specs.declared.tree.Leaf.TheVariants as leaf
use Rattle.atom_traits.specs.declared.tree.Port.{Port}
use Rattle.atom_traits.specs.declared.tree.Port.TheVariants.{Const, Container}
use Rattle.atom_traits.specs.declared.tree.Source.{Source}
use Rattle.atom_traits.specs.declared.tree.Source.TheVariants as source
use Rattle.atom_traits.specs.Form.{Asks, Ends, TreeForm, count_if, count_of}
use Rattle.atom_traits.specs.Operation.{operation_has_args, ports_of}
use Rattle.atom_traits.specs.Tests.{guard_passes, leaf_passes, port_below, port_in, second_passes, source_in, tree_passes}
use Rattle.banzai_config.specs.declared.parts.PartSlot.{PartSlot}
use Rattle.banzai_config.specs.Legal.{LegalFor, Shape, Standing, are_below, are_counts_right, has_good_numbers, has_pattern, have_words, head_holds, is_modulus_small, length_of_array, rules_of, standing_after}
use Rattle.banzai_config.specs.Named.{arrays_of, guard_reads, leaf_reads, port_reads, reads_of, second_reads, slot_array, slot_reads, slot_targets, source_reads, targets_of, tree_reads, trees_reads}
use Rattle.banzai_config.specs.Parts.{Atom, PartsForm, Stateful, Stateless, StageForm, atoms_of}
use Rattle.banzai_config.specs.Stages.{AreNumbersLegal, AreOutputsLegal, IsStageLegal}
use Rattle.banzai_config.proofs.Lawful.{all_hold}
use Rattle.banzai_config.proofs.Staged.{legal_depth, legal_numbers, legal_outputs, legal_stages}
use Rattle.banzai_machine.specs.Runnable.{AtomWithin, ExportWithin, IsRunnable, SlotWithin, StageWithin, array_sizes}
use Rattle.banzai_machine.proofs.Every.{Every-weaker}
use Rattle.banzai_machine.proofs.LegalOwns.{every_item, legal_arrays, legal_containers}
use Rattle.banzai_machine.proofs.LegalReads.{legal_reads}

-- the two parts of a list that passes
passes : (r : ℕ → Bool) (xs ys : List ℕ) → list_all r (xs ++ ys) ≡ true → (list_all r xs ≡ true) × (list_all r ys ≡ true)
passes r xs ys e = and_parts (list_all r xs) (list_all r ys) (sym (list_all-append r xs ys) ∙ e)

-- what passes where it is listed, passes where it is named
module _ (r : ℕ → Bool) where
  port_passes : (x : Port) → list_all r (port_reads x) ≡ true → port_in r x ≡ true
  port_passes (Const word) e = refl
  port_passes (Container at) e = (and_parts (r at) true e).0

  ports_pass : (xs : List Port) → list_all r (flat_map port_reads xs) ≡ true → list_all (port_in r) xs ≡ true
  ports_pass [] e = refl
  ports_pass (x ∷ xs) e =
      let both = passes r (port_reads x) (flat_map port_reads xs) e in
      and_from (port_in r x) (list_all (port_in r) xs) (port_passes x both.0) (ports_pass xs both.1)

  source_passes : (x : Source) → list_all r (source_reads x) ≡ true → source_in r x ≡ true
  source_passes (source.Const word) e = refl
  source_passes (source.Container at) e = (and_parts (r at) true e).0
  source_passes (source.State k) e = refl

  leaf_is_fine : (l : Leaf) → list_all r (leaf_reads l) ≡ true → leaf_passes (port_in r) (source_in r) l ≡ true
  leaf_is_fine leaf.Keep e = refl
  leaf_is_fine (leaf.Put x) e = port_passes x e
  leaf_is_fine (leaf.Add x) e = port_passes x e
  leaf_is_fine (leaf.Sub x) e = port_passes x e

  guard_is_fine : (g : Guard) → list_all r (guard_reads g) ≡ true → guard_passes (port_in r) (source_in r) g ≡ true
  guard_is_fine g e =
      let both = passes r (source_reads g.left) (source_reads g.right) e in
      and_from (source_in r g.left) (source_in r g.right) (source_passes g.left both.0) (source_passes g.right both.1)

  tree_is_fine : (t : TreeForm) → list_all r (tree_reads t) ≡ true → tree_passes (port_in r) (source_in r) t ≡ true
  tree_is_fine (Ends l) e = leaf_is_fine l e
  tree_is_fine (Asks g t u) e =
      let first = passes r (guard_reads g) (tree_reads t ++ tree_reads u) e in
      let rest = passes r (tree_reads t) (tree_reads u) first.1 in
      and_from (guard_passes (port_in r) (source_in r) g) (tree_passes (port_in r) (source_in r) t && tree_passes (port_in r) (source_in r) u) (guard_is_fine g first.0)
      (and_from (tree_passes (port_in r) (source_in r) t) (tree_passes (port_in r) (source_in r) u) (tree_is_fine t rest.0) (tree_is_fine u rest.1))

  second_is_fine : (t : Option TreeForm) → list_all r (second_reads t) ≡ true → second_passes (port_in r) (source_in r) t ≡ true
  second_is_fine None e = refl
  second_is_fine (Some t) e = tree_is_fine t e

export_within : (n : ℕ) (to : Option ℕ) → are_below n (option_to_list to) ≡ true → ExportWithin n to
export_within n None e = tt
export_within n (Some k) e = ltb-true k n (and_parts (nat_lt k n) true e).0

-- an array of a configuration with words has a word
some_words : (arrays : List Array) (k : ℕ) → list_all (λ (a : Array). nat_le 1 (length_of_array a)) arrays ≡ true → k < length arrays → 0 < slice_index (map length_of_array arrays) k
some_words [] k e h = absurd (omega arith)
some_words (a ∷ arrays) zero e h =
    let both = and_parts (nat_le 1 (length_of_array a)) (list_all (λ (b : Array). nat_le 1 (length_of_array b)) arrays) e in
    omega (arith, leb-true 1 (length_of_array a) both.0)
some_words (a ∷ arrays) (suc k) e h =
    let both = and_parts (nat_le 1 (length_of_array a)) (list_all (λ (b : Array). nat_le 1 (length_of_array b)) arrays) e in
    let less : k < length arrays = omega arith in
    some_words arrays k both.1 less

count_some : (t : Option TreeForm) → 0 < count_if t
count_some None = omega arith
count_some (Some t) = omega arith

count_few : (t : Option TreeForm) → count_if t ≤ 2
count_few None = omega arith
count_few (Some t) = omega arith

module _ (s : Shape) (arrays : List Array) (n : ℕ) (filled : list_all (λ (a : Array). nat_le 1 (length_of_array a)) arrays ≡ true) where
  slots_within : (slots : List PartSlot) → are_below n (flat_map slot_reads slots) ≡ true → are_below n (flat_map slot_targets slots) ≡ true → are_below (length arrays) (map slot_array slots) ≡ true
      → Every (λ slot. SlotWithin (map length_of_array arrays) n slot) slots
  slots_within [] e f a = tt
  slots_within (x ∷ slots) e f a =
      let reads = passes (λ c. nat_lt c n) (slot_reads x) (flat_map slot_reads slots) e in
      let targets = passes (λ c. nat_lt c n) (slot_targets x) (flat_map slot_targets slots) f in
      let words = passes (λ c. nat_lt c n) (option_to_list x.old) (option_to_list x.new) targets.0 in
      let there = and_parts (nat_lt x.array (length arrays)) (are_below (length arrays) (map slot_array slots)) a in
      let less : x.array < length arrays = ltb-true x.array (length arrays) there.0 in (
        record {
          array = omega (arith, less, length-map arrays length_of_array);
          size = some_words arrays x.array filled less;
          index = port_passes (λ c. nat_lt c n) x.index reads.0;
          old = export_within n x.old words.0;
          new = export_within n x.new words.1;
        },
        slots_within slots reads.1 targets.1 there.1,
      )

  atom_within : (x : Atom) → are_below n (reads_of x) ≡ true → are_below n (targets_of x) ≡ true → are_below (length arrays) (arrays_of x) ≡ true → has_good_numbers x ≡ true → has_pattern s x ≡ true
      → AtomWithin (map length_of_array arrays) n x
  atom_within (Stateless x) e f a good fits = record {
    to = ltb-true x.to n (and_parts (nat_lt x.to n) true f).0;
    names = ports_pass (λ c. nat_lt c n) (ports_of x.op) e;
    args = (and_parts (operation_has_args x.op) (is_modulus_small x.op) good).0;
  }
  atom_within (Stateful x) e f a good fits =
      let reads = passes (λ c. nat_lt c n) (flat_map slot_reads x.slots) (trees_reads x.trees) e in
      let trees = passes (λ c. nat_lt c n) (tree_reads x.trees.first) (second_reads x.trees.second) reads.1 in
      let number : count_of x.trees ≡ length x.slots = eqb-true (count_of x.trees) (length x.slots) (and_parts (nat_eq (count_of x.trees) (length x.slots)) (s.fits x.trees) fits).0 in
      record {
        some = omega (arith, number, count_some x.trees.second);
        few = omega (arith, number, count_few x.trees.second);
        slots = slots_within x.slots reads.0 f a;
        trees =
            and_from (tree_passes (port_in (λ c. nat_lt c n)) (source_in (λ c. nat_lt c n)) x.trees.first) (second_passes (port_in (λ c. nat_lt c n)) (source_in (λ c. nat_lt c n)) x.trees.second)
            (tree_is_fine (λ c. nat_lt c n) x.trees.first trees.0) (second_is_fine (λ c. nat_lt c n) x.trees.second trees.1);
      }

  atoms_within : (xs : List Atom) → are_below n (flat_map reads_of xs) ≡ true → are_below n (flat_map targets_of xs) ≡ true → are_below (length arrays) (flat_map arrays_of xs) ≡ true
      → list_all has_good_numbers xs ≡ true → list_all (has_pattern s) xs ≡ true → Every (λ x. AtomWithin (map length_of_array arrays) n x) xs
  atoms_within [] e f a good fits = tt
  atoms_within (x ∷ xs) e f a good fits =
      let reads = passes (λ c. nat_lt c n) (reads_of x) (flat_map reads_of xs) e in
      let targets = passes (λ c. nat_lt c n) (targets_of x) (flat_map targets_of xs) f in
      let there = passes (λ c. nat_lt c (length arrays)) (arrays_of x) (flat_map arrays_of xs) a in
      let numbers = and_parts (has_good_numbers x) (list_all has_good_numbers xs) good in
      let patterns = and_parts (has_pattern s x) (list_all (has_pattern s) xs) fits in
      (atom_within x reads.0 targets.0 there.0 numbers.0 patterns.0, atoms_within xs reads.1 targets.1 there.1 numbers.1 patterns.1)

outputs_within : (n : ℕ) (outputs : List Port) → are_below n (flat_map port_reads outputs) ≡ true → Every (λ port. port_below n port ≡ true) outputs
outputs_within n [] e = tt
outputs_within n (x ∷ outputs) e =
    let both = passes (λ c. nat_lt c n) (port_reads x) (flat_map port_reads outputs) e in
    (port_passes (λ c. nat_lt c n) x both.0, outputs_within n outputs both.1)

module _ (s : Shape) (p : PartsForm) (legal : LegalFor s p) where
  filled_arrays : list_all (λ (a : Array). nat_le 1 (length_of_array a)) p.arrays ≡ true
  filled_arrays =
      let head = and_parts (head_holds p) _ (all_hold (rules_of s p) legal) in
      let counts = and_parts (are_counts_right p) _ head.0 in
      let some = and_parts (nat_le 1 (length p.fields)) _ counts.0 in
      let few = and_parts (nat_le (length p.fields) 64) _ some.1 in
      let arrays = and_parts (nat_le (length p.arrays) 32) _ few.1 in
      let words = and_parts (have_words p.arrays) _ arrays.1 in
      (and_parts (list_all (λ (a : Array). nat_le 1 (length_of_array a)) p.arrays) (nat_le (state_words p.arrays) 1048576) words.0).0

  stages_within : Every (λ stage. StageWithin (array_sizes p) p.containers stage) p.stages
  stages_within =
      every_item (λ stage. StageWithin (array_sizes p) p.containers stage) [] p.stages
      (Every-weaker (IsStageLegal s p) (λ (st : Standing StageForm). StageWithin (array_sizes p) p.containers st.item)
      (λ st h. atoms_within s p.arrays p.containers filled_arrays (atoms_of st.item) h.reads_there h.targets_there h.arrays_there h.numbers h.patterns)
      (standing_after [] p.stages) (legal_stages s p legal))

  pub legal_runs : 1 ≤ s.depth → s.depth ≤ 65535 → IsRunnable p
  legal_runs some few =
      let numbers : AreNumbersLegal p = legal_numbers s p legal in
      let outputs : AreOutputsLegal p = legal_outputs s p legal in
      record {
        some = omega (arith, some, legal_depth s p legal);
        few = omega (arith, few, legal_depth s p legal);
        narrow = numbers.few_containers;
        fields = numbers.room_for_fields;
        shown = outputs.as_fields;
        stages = stages_within;
        arrays = legal_arrays s p legal;
        writers = legal_containers s p legal;
        apart = legal_reads s p legal;
        outputs = outputs_within p.containers p.outputs outputs.there;
      }
