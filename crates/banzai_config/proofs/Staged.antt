-- What the rules of a legal configuration tell of its numbers, stages and outputs.
use Rattle.std.proofs.Common.{◌≡◌, ℕ, ◌+◌, Bool, true, not, ◌&&◌, nat_eq, List, [], ◌∷◌, ◌++◌, None, length, refl, sym, ap, subst, ◌∙◌, append_assoc, append-nil}
use Rattle.std.specs.List.{flat_map, list_all, AllByRecursion as Every}
use Rattle.std.specs.Prelude.{nat_le, nat_lt}
use Rattle.std.proofs.lemmas.Bool.{and_from, and_parts, eqb-true, leb-true}
use Rattle.std.proofs.lemmas.List.Folds.{list_all-append}
use Rattle.dom_words.specs.State.{state_words}
use Rattle.atom_traits.specs.declared.tree.Port.{Port}
use Rattle.banzai_config.specs.declared.parts.Version.{Version}
use Rattle.banzai_config.specs.declared.parts.Version.TheVariants.{One, Two}
use Rattle.banzai_config.specs.Judged.{broken}
use Rattle.banzai_config.specs.Legal.{Before, LegalFor, Rule, Shape, Sizes, are_apart, are_below, are_counts_right, are_known, are_new, atom_tests, before_of, has_good_numbers, has_multiplier, has_narrow_constants, has_pattern, has_place, have_words, head_holds, is_known, is_there, length_of_array, may_write, output_rules, rules_of, sizes_of, stage_rules, standing, standing_after}
use Rattle.banzai_config.specs.Named.{arrays_of, port_reads, reads_of, stage_targets, targets_of}
use Rattle.banzai_config.specs.Parts.{Atom, PartsForm, StageForm, atoms_of}
use Rattle.banzai_config.specs.Stages.{AreNumbersLegal, AreOutputsLegal, AreStagesLegal, IsStageLegal}
use Rattle.banzai_config.specs.Walked.{first_in, first_of}
use Rattle.banzai_config.proofs.Apart.{apart_by, apart_more}
use Rattle.banzai_config.proofs.Fits.{none_here, none_later, stage_here, stage_later}
use Rattle.banzai_config.proofs.Lawful.{all_hold, legal_first, new_both, one_more, tests_hold}

-- the rules of an atom that later facts rest on
record IsKept (s : Shape) (z : Sizes) (before : Before) (a : Atom) : Type 0 where
  reads : are_below z.containers (reads_of a) ≡ true
  targets : are_below z.containers (targets_of a) ≡ true
  arrays : are_below z.arrays (arrays_of a) ≡ true
  numbers : has_good_numbers a ≡ true
  pattern : has_pattern s a ≡ true
  known : are_known z.fields before.known (reads_of a) ≡ true
  writes : may_write z.version z.fields before.known before.written before.read (reads_of a) (targets_of a) ≡ true

-- an atom that breaks no rule
kept : (s : Shape) (z : Sizes) (before : Before) (a : Atom) → broken (atom_tests s z before a) ≡ None → IsKept s z before a
kept s z before a e =
    let placed = and_parts (has_place s before a) _ (tests_hold (atom_tests s z before a) e) in
    let there = and_parts (is_there z a) _ placed.1 in
    let multiplier = and_parts (has_multiplier s a) _ there.1 in
    let narrow = and_parts (has_narrow_constants s a) _ multiplier.1 in
    let pattern = and_parts (has_pattern s a) _ narrow.1 in
    let arrays = and_parts (are_new before.held (arrays_of a)) _ pattern.1 in
    let known = and_parts (are_known z.fields before.known (reads_of a)) _ arrays.1 in
    let writes = and_parts (may_write z.version z.fields before.known before.written before.read (reads_of a) (targets_of a)) true known.1 in
    let halves = and_parts (are_below z.containers (reads_of a) && are_below z.containers (targets_of a)) (are_below z.arrays (arrays_of a) && has_good_numbers a) there.0 in
    let ports = and_parts (are_below z.containers (reads_of a)) (are_below z.containers (targets_of a)) halves.0 in
    let others = and_parts (are_below z.arrays (arrays_of a)) (has_good_numbers a) halves.1 in
    record { reads = ports.0; targets = ports.1; arrays = others.0; numbers = others.1; pattern = pattern.0; known = known.0; writes = writes.0 }

-- in either version no container is written twice
writes_new : (v : Version) (fields : ℕ) (known written read reads targets : List ℕ) → may_write v fields known written read reads targets ≡ true → are_new written targets ≡ true
writes_new One fields known written read reads targets e = (and_parts (list_all (λ c. not (is_known fields known c)) targets) (are_new written targets) e).1
writes_new Two fields known written read reads targets e =
    (and_parts (are_apart (read ++ reads) targets) (are_new written targets) (and_parts (are_apart written reads) (are_apart (read ++ reads) targets && are_new written targets) e).1).1

module _ (s : Shape) (z : Sizes) (stages : List StageForm) where
  -- a test that no atom's rules let fail
  atoms_pass : (p : Atom → Bool) → ((before : Before) (a : Atom) → IsKept s z before a → p a ≡ true) → (before atoms : List Atom) → first_in s z stages before atoms ≡ None → list_all p atoms ≡ true
  atoms_pass p one before [] e = refl
  atoms_pass p one before (a ∷ atoms) e =
      let k = broken (atom_tests s z (before_of stages before) a) in
      let rest = first_in s z stages (before ++ a ∷ []) atoms in
      and_from _ _ (one (before_of stages before) a (kept s z (before_of stages before) a (none_here k (length before) rest e))) (atoms_pass p one (before ++ a ∷ []) atoms (none_later k (length before) rest e))

  -- a test of numbers that no atom's rules let fail
  numbers_pass : (p : ℕ → Bool) (f : Atom → List ℕ) → ((before : List Atom) (a : Atom) → IsKept s z (before_of stages before) a → list_all p (f a) ≡ true)
      → (before atoms : List Atom) → first_in s z stages before atoms ≡ None → list_all p (flat_map f atoms) ≡ true
  numbers_pass p f one before [] e = refl
  numbers_pass p f one before (a ∷ atoms) e =
      let k = broken (atom_tests s z (before_of stages before) a) in
      let rest = first_in s z stages (before ++ a ∷ []) atoms in
      list_all-append p (f a) (flat_map f atoms)
      ∙ and_from _ _ (one before a (kept s z (before_of stages before) a (none_here k (length before) rest e))) (numbers_pass p f one (before ++ a ∷ []) atoms (none_later k (length before) rest e))

  -- what atoms write is new behind those before them
  writes_once : (before atoms : List Atom) → first_in s z stages before atoms ≡ None → are_new (flat_map targets_of before) (flat_map targets_of atoms) ≡ true
  writes_once before [] e = refl
  writes_once before (a ∷ atoms) e =
      let k = broken (atom_tests s z (before_of stages before) a) in
      let rest = first_in s z stages (before ++ a ∷ []) atoms in
      let is : IsKept s z (before_of stages before) a = kept s z (before_of stages before) a (none_here k (length before) rest e) in
      new_both (flat_map targets_of before) (targets_of a) (flat_map targets_of atoms)
      ∙ and_from _ _ (writes_new z.version z.fields (flat_map stage_targets stages) (flat_map targets_of before) (flat_map reads_of before) (reads_of a) (targets_of a) is.writes)
      (ap (λ x. are_new x (flat_map targets_of atoms)) (sym (one_more targets_of before a)) ∙ writes_once (before ++ a ∷ []) atoms (none_later k (length before) rest e))

module _ (s : Shape) (fields arrays containers : ℕ) (stages : List StageForm) where
  abbrev sizes : Version → Sizes
  sizes v = record { version = v; fields = fields; arrays = arrays; containers = containers }

  abbrev known : ℕ → Bool
  known c = is_known fields (flat_map stage_targets stages) c

  -- in version one all that a stage reads is known and nothing that it writes
  apart_one : (atoms : List Atom) → first_in s (sizes One) stages [] atoms ≡ None → are_apart (flat_map reads_of atoms) (flat_map targets_of atoms) ≡ true
  apart_one atoms e =
      apart_by known (flat_map reads_of atoms) (flat_map targets_of atoms)
      (numbers_pass s (sizes One) stages known reads_of (λ before a is. is.known) [] atoms e)
      (numbers_pass s (sizes One) stages (λ c. not (known c)) targets_of
      (λ before a is. (and_parts (list_all (λ c. not (known c)) (targets_of a)) (are_new (flat_map targets_of before) (targets_of a)) is.writes).0) [] atoms e)

  -- in version two each atom is asked against those before it
  apart_two : (before atoms : List Atom) → are_apart (flat_map reads_of before) (flat_map targets_of before) ≡ true → first_in s (sizes Two) stages before atoms ≡ None
      → are_apart (flat_map reads_of (before ++ atoms)) (flat_map targets_of (before ++ atoms)) ≡ true
  apart_two before [] d e = subst (λ (x : List Atom). are_apart (flat_map reads_of x) (flat_map targets_of x) ≡ true) (sym (append-nil before)) d
  apart_two before (a ∷ atoms) d e =
      let k = broken (atom_tests s (sizes Two) (before_of stages before) a) in
      let rest = first_in s (sizes Two) stages (before ++ a ∷ []) atoms in
      let is : IsKept s (sizes Two) (before_of stages before) a = kept s (sizes Two) (before_of stages before) a (none_here k (length before) rest e) in
      let rs = flat_map reads_of before in
      let ts = flat_map targets_of before in
      let first = and_parts (are_apart ts (reads_of a)) (are_apart (rs ++ reads_of a) (targets_of a) && are_new ts (targets_of a)) is.writes in
      let second = and_parts (are_apart (rs ++ reads_of a) (targets_of a)) (are_new ts (targets_of a)) first.1 in
      let more : are_apart (flat_map reads_of (before ++ a ∷ [])) (flat_map targets_of (before ++ a ∷ [])) ≡ true =
      ap (λ x. are_apart x (flat_map targets_of (before ++ a ∷ []))) (one_more reads_of before a)
      ∙ ap (λ x. are_apart (rs ++ reads_of a) x) (one_more targets_of before a)
      ∙ apart_more rs ts (reads_of a) (targets_of a) d first.0 second.0 in
      subst (λ (x : List Atom). are_apart (flat_map reads_of x) (flat_map targets_of x) ≡ true) (append_assoc before (a ∷ []) atoms)
      (apart_two (before ++ a ∷ []) atoms more (none_later k (length before) rest e))

  apart_either : (v : Version) (atoms : List Atom) → first_in s (sizes v) stages [] atoms ≡ None → are_apart (flat_map reads_of atoms) (flat_map targets_of atoms) ≡ true
  apart_either One atoms e = apart_one atoms e
  apart_either Two atoms e = apart_two [] atoms refl e

module _ (s : Shape) (p : PartsForm) where
  abbrev all : Sizes
  all = sizes_of p

  stage_legal : (before : List StageForm) (stage : StageForm) → first_in s all before [] (atoms_of stage) ≡ None → IsStageLegal s p (record { before = before; item = stage })
  stage_legal before stage e = record {
    reads_there = numbers_pass s all before (λ c. nat_lt c p.containers) reads_of (λ b a is. is.reads) [] (atoms_of stage) e;
    targets_there = numbers_pass s all before (λ c. nat_lt c p.containers) targets_of (λ b a is. is.targets) [] (atoms_of stage) e;
    arrays_there = numbers_pass s all before (λ c. nat_lt c (length p.arrays)) arrays_of (λ b a is. is.arrays) [] (atoms_of stage) e;
    numbers = atoms_pass s all before has_good_numbers (λ b a is. is.numbers) [] (atoms_of stage) e;
    patterns = atoms_pass s all before (has_pattern s) (λ b a is. is.pattern) [] (atoms_of stage) e;
    known = numbers_pass s all before (is_known (length p.fields) (flat_map stage_targets before)) reads_of (λ b a is. is.known) [] (atoms_of stage) e;
    apart = apart_either s (length p.fields) (length p.arrays) p.containers before p.version (atoms_of stage) e;
    once = writes_once s all before [] (atoms_of stage) e;
  }

  stages_legal : (before stages : List StageForm) → first_of s all before stages ≡ None → Every (IsStageLegal s p) (standing_after before stages)
  stages_legal before [] e = tt
  stages_legal before (stage ∷ stages) e =
      let b = first_in s all before [] (atoms_of stage) in
      let rest = first_of s all (before ++ stage ∷ []) stages in
      (stage_legal before stage (stage_here b (length before + 1) rest e), stages_legal (before ++ stage ∷ []) stages (stage_later b (length before + 1) rest e))

  pub legal_stages : LegalFor s p → AreStagesLegal s p
  legal_stages legal = stages_legal [] p.stages (legal_first s p legal)

abbrev holds : Rule → Bool
holds r = r.test.holds

outputs_hold : (s : Shape) (z : Sizes) (written : List ℕ) (before outputs : List Port) → list_all holds (flat_map (output_rules s z written) (standing_after before outputs)) ≡ true
    → (are_below z.containers (flat_map port_reads outputs) ≡ true) × (are_known z.fields written (flat_map port_reads outputs) ≡ true)
outputs_hold s z written before [] e = (refl, refl)
outputs_hold s z written before (o ∷ outputs) e =
    let first = and_parts (are_below z.containers (port_reads o)) _ e in
    let second = and_parts (are_known z.fields written (port_reads o)) _ first.1 in
    let rest = outputs_hold s z written (before ++ o ∷ []) outputs second.1 in (
      list_all-append (λ c. nat_lt c z.containers) (port_reads o) (flat_map port_reads outputs) ∙ and_from _ _ first.0 rest.0,
      list_all-append (is_known z.fields written) (port_reads o) (flat_map port_reads outputs) ∙ and_from _ _ second.0 rest.1,
    )

module _ (s : Shape) (p : PartsForm) (legal : LegalFor s p) where
  abbrev outer_rules : List Rule
  outer_rules = flat_map (output_rules s (sizes_of p) (flat_map stage_targets p.stages)) (standing p.outputs)

  pub legal_depth : length p.stages ≡ s.depth
  legal_depth =
      let head = and_parts (head_holds p) _ (all_hold (rules_of s p) legal) in
      let depth = and_parts (nat_eq (length p.stages) s.depth) _ head.1 in
      eqb-true (length p.stages) s.depth depth.0

  pub legal_numbers : AreNumbersLegal p
  legal_numbers =
      let head = and_parts (head_holds p) _ (all_hold (rules_of s p) legal) in
      let counts = and_parts (are_counts_right p) _ head.0 in
      let some = and_parts (nat_le 1 (length p.fields)) _ counts.0 in
      let few = and_parts (nat_le (length p.fields) 64) _ some.1 in
      let arrays = and_parts (nat_le (length p.arrays) 32) _ few.1 in
      let words = and_parts (have_words p.arrays) _ arrays.1 in
      let room = and_parts (nat_le (length p.fields) p.containers) (nat_le p.containers 2048) words.1 in
      let state = and_parts (list_all (λ a. nat_le 1 (length_of_array a)) p.arrays) (nat_le (state_words p.arrays) 1048576) words.0 in
      record {
        some_fields = leb-true 1 (length p.fields) some.0;
        few_fields = leb-true (length p.fields) 64 few.0;
        few_arrays = leb-true (length p.arrays) 32 arrays.0;
        few_words = leb-true (state_words p.arrays) 1048576 state.1;
        room_for_fields = leb-true (length p.fields) p.containers room.0;
        few_containers = leb-true p.containers 2048 room.1;
      }

  pub legal_outputs : AreOutputsLegal p
  legal_outputs =
      let head = and_parts (head_holds p) _ (all_hold (rules_of s p) legal) in
      let depth = and_parts (nat_eq (length p.stages) s.depth) _ head.1 in
      let behind = and_parts (list_all holds (flat_map (stage_rules s (sizes_of p)) (standing p.stages))) _ (sym (list_all-append holds (flat_map (stage_rules s (sizes_of p)) (standing p.stages)) _) ∙ depth.1) in
      let number = and_parts (nat_eq (length p.outputs) (length p.fields)) (list_all holds outer_rules) behind.1 in
      let ports = outputs_hold s (sizes_of p) (flat_map stage_targets p.stages) [] p.outputs number.1 in
      record { as_fields = eqb-true (length p.outputs) (length p.fields) number.0; there = ports.0; known = ports.1 }
