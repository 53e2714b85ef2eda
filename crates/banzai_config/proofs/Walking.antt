-- A stage's atoms one after another, with what is seen so far as sets.
use Rattle.std.proofs.Common.{◌≡◌, ℕ, ◌+◌, ◌<◌, Bool, true, false, List, [], ◌∷◌, ◌++◌, Option, Some, None, length, map, take, drop, get_or, refl, sym, ap, ◌∙◌, arith, append_assoc, append-nil, zero-add}
use Rattle.std.specs.List.{flat_map}
use Rattle.std.specs.Option.{option_or}
use Rattle.std.proofs.Common.{subst, length-append}
use Rattle.std.proofs.lemmas.Grind.{flat_map-append}
use Rattle.std.proofs.lemmas.List.{drop_more, length-map, length-take-le, map_more}
use Rattle.atom_traits.specs.Form.{TreesForm}
use Rattle.banzai_config.specs.declared.fault.ConfigKind.{ConfigKind}
use Rattle.banzai_config.specs.declared.judge.Limits.{Limits}
use Rattle.banzai_config.specs.declared.judge.Seen.{Seen}
use Rattle.banzai_config.specs.declared.parts.OpAtom.{OpAtom}
use Rattle.banzai_config.specs.declared.parts.StageParts.{StageParts}
use Rattle.banzai_config.specs.declared.parts.TreeAtom.{TreeAtom}
use Rattle.banzai_config.specs.declared.walk.BrokenAtom.{BrokenAtom}
use Rattle.banzai_config.specs.Judged.{IsNoted, broken, seen_before, shape_in}
use Rattle.banzai_config.specs.Legal.{Before, Shape, Sizes, atom_tests, before_of, count, is_stateful, is_stateless}
use Rattle.banzai_config.specs.Named.{arrays_of, reads_of, stage_arrays, stage_targets, targets_of}
use Rattle.banzai_config.specs.Parts.{Atom, Stateless, Stateful, AtomForm, StageForm, atom_form, atoms_of, stage_form}
use Rattle.banzai_config.specs.Walked.{IsEnded, IsSeen, at_place, first_in, first_of, in_stage, op_atom, op_atoms, tree_atom, tree_atoms}

abbrev before_by : (n m : ℕ) (held known written read : List ℕ) → Before
before_by n m held known written read = record { stateless = n; stateful = m; held = held; known = known; written = written; read = read }

before_same : (n p m q : ℕ) (h k w r i l x s : List ℕ) → n ≡ p → m ≡ q → h ≡ i → k ≡ l → w ≡ x → r ≡ s → before_by n m h k w r ≡ before_by p q i l x s
before_same n p m q h k w r i l x s a b c d e f = rw (a, b, c, d, e, f) refl

-- the rules of an atom by the sets are those by the lists
module _ (fits : TreesForm → Bool) (bits : ℕ) (l : Limits) (z : Sizes) (stages : List StageForm) (atoms : List Atom) (seen : Seen) (is : IsSeen stages atoms seen) where
  before_is : (n m : ℕ) → n ≡ count is_stateless atoms → m ≡ count is_stateful atoms → before_by n m seen.held.numbers seen.known.numbers seen.written.numbers seen.read.numbers ≡ before_of stages atoms
  before_is n m a b = before_same n _ m _ _ _ _ _ _ _ _ _ a b is.held is.known is.written is.read

  pub op_tests_same : (a : OpAtom) (n : ℕ) → n ≡ count is_stateless atoms
      → broken (atom_tests (shape_in (λ _. true) 0 l) z (seen_before n seen) (Stateless a)) ≡ broken (atom_tests (shape_in fits bits l) z (before_of stages atoms) (Stateless a))
  op_tests_same a n e = ap (λ (x : Before). broken (atom_tests (shape_in fits bits l) z x (Stateless a))) (before_is n (count is_stateful atoms) e refl)

  pub tree_tests_same : (a : AtomForm) (n : ℕ) → n ≡ count is_stateful atoms
      → broken (atom_tests (shape_in fits bits l) z (seen_before n seen) (Stateful a)) ≡ broken (atom_tests (shape_in fits bits l) z (before_of stages atoms) (Stateful a))
  tree_tests_same a n e = ap (λ (x : Before). broken (atom_tests (shape_in fits bits l) z x (Stateful a))) (before_is (count is_stateless atoms) n refl e)

-- how many atoms of each kind
count_ops : (atoms : List OpAtom) → count is_stateless (op_atoms atoms) ≡ length atoms
count_ops [] = refl
count_ops (a ∷ atoms) = omega (arith, count_ops atoms)

count_trees : (atoms : List TreeAtom) → count is_stateful (tree_atoms atoms) ≡ length atoms
count_trees [] = refl
count_trees (a ∷ atoms) = omega (arith, count_trees atoms)

no_trees : (atoms : List OpAtom) (rest : List Atom) → count is_stateful (op_atoms atoms ++ rest) ≡ count is_stateful rest
no_trees [] rest = refl
no_trees (a ∷ atoms) rest = omega (arith, no_trees atoms rest)

one_more : (f : Atom → List ℕ) (atoms : List Atom) (a : Atom) → flat_map f (atoms ++ a ∷ []) ≡ flat_map f atoms ++ f a
one_more f atoms a = flat_map-append f atoms (a ∷ []) ∙ ap (λ y. flat_map f atoms ++ y) (append-nil (f a))

-- what an atom names joins what is seen
seen_more : (stages : List StageForm) (atoms : List Atom) (a : Atom) (old new : Seen) → IsSeen stages atoms old → IsNoted old new (arrays_of a) (reads_of a) (targets_of a) → IsSeen stages (atoms ++ a ∷ []) new
seen_more stages atoms a old new is noted = record {
  held =
      noted.held ∙ ap (λ x. x ++ arrays_of a) is.held ∙ append_assoc (flat_map stage_arrays stages) (flat_map arrays_of atoms) (arrays_of a)
      ∙ ap (λ x. flat_map stage_arrays stages ++ x) (sym (one_more arrays_of atoms a));
  known = noted.known ∙ is.known;
  written = noted.written ∙ ap (λ x. x ++ targets_of a) is.written ∙ sym (one_more targets_of atoms a);
  read = noted.read ∙ ap (λ x. x ++ reads_of a) is.read ∙ sym (one_more reads_of atoms a);
}

-- atom i of a list after those of the prefix p; f makes an atom of an item
module _ {B : Type 0} (f : B → Atom) (p : List Atom) (xs : List B) (i : ℕ) (b : B) (less : i < length xs) (item : b ≡ get_or xs i b) where
  front_more : p ++ map f (take (i + 1) xs) ≡ (p ++ map f (take i xs)) ++ f b ∷ []
  front_more =
      ap (λ ys. p ++ ys) (map_more f xs i b less ∙ ap (λ y. map f (take i xs) ++ f y ∷ []) (sym item))
      ∙ sym (append_assoc p (map f (take i xs)) (f b ∷ []))

  rest_is : map f (drop i xs) ≡ f b ∷ map f (drop (i + 1) xs)
  rest_is = ap (map f) (drop_more xs i b less) ∙ ap (λ y. f y ∷ map f (drop (i + 1) xs)) (sym item)

  length_front : length (p ++ map f (take i xs)) ≡ length p + i
  length_front = omega (arith, length-append p (map f (take i xs)), length-map (take i xs) f, length-take-le i xs (omega arith))

  turn : (s : Shape) (z : Sizes) (stages : List StageForm) (k : Option ConfigKind) → k ≡ broken (atom_tests s z (before_of stages (p ++ map f (take i xs))) (f b))
      → first_in s z stages (p ++ map f (take i xs)) (map f (drop i xs)) ≡ at_place k (length p + i) (first_in s z stages (p ++ map f (take (i + 1) xs)) (map f (drop (i + 1) xs)))
  turn s z stages k e =
      ap (first_in s z stages (p ++ map f (take i xs))) rest_is
      ∙ ap (λ x. at_place x (length (p ++ map f (take i xs))) (first_in s z stages ((p ++ map f (take i xs)) ++ f b ∷ []) (map f (drop (i + 1) xs)))) (sym e)
      ∙ ap (λ n. at_place k n (first_in s z stages ((p ++ map f (take i xs)) ++ f b ∷ []) (map f (drop (i + 1) xs)))) length_front
      ∙ ap (λ ys. at_place k (length p + i) (first_in s z stages ys (map f (drop (i + 1) xs)))) (sym front_more)

  pub seen_next : (stages : List StageForm) (old new : Seen) → IsSeen stages (p ++ map f (take i xs)) old → IsNoted old new (arrays_of (f b)) (reads_of (f b)) (targets_of (f b)) → IsSeen stages (p ++ map f (take (i + 1) xs)) new
  seen_next stages old new is noted =
      let P : List Atom → Type 0 = λ ys. IsSeen stages ys new in
      subst P (sym front_more) (seen_more stages (p ++ map f (take i xs)) (f b) old new is noted)

module _ (fits : TreesForm → Bool) (bits : ℕ) (l : Limits) (z : Sizes) (stages : List StageForm) (old : Seen) (k : Option ConfigKind) where
  -- one atom without state more
  pub op_turn : (xs : List OpAtom) (i : ℕ) (b : OpAtom) → i < length xs → b ≡ get_or xs i b → IsSeen stages (op_atoms (take i xs)) old
      → k ≡ broken (atom_tests (shape_in (λ _. true) 0 l) z (seen_before i old) (Stateless b))
      → first_in (shape_in fits bits l) z stages (op_atoms (take i xs)) (op_atoms (drop i xs)) ≡ at_place k i (first_in (shape_in fits bits l) z stages (op_atoms (take (i + 1) xs)) (op_atoms (drop (i + 1) xs)))
  op_turn xs i b less item is e =
      turn op_atom [] xs i b less item (shape_in fits bits l) z stages k
      (e ∙ op_tests_same fits bits l z stages (op_atoms (take i xs)) old is b i (sym (count_ops (take i xs) ∙ length-take-le i xs (omega arith))))
      ∙ ap (λ n. at_place k n (first_in (shape_in fits bits l) z stages (op_atoms (take (i + 1) xs)) (op_atoms (drop (i + 1) xs)))) (zero-add i)

  -- one atom with state more
  pub tree_turn : (ops : List OpAtom) (xs : List TreeAtom) (i : ℕ) (b : TreeAtom) → i < length xs → b ≡ get_or xs i b → IsSeen stages (op_atoms ops ++ tree_atoms (take i xs)) old
      → k ≡ broken (atom_tests (shape_in fits bits l) z (seen_before i old) (Stateful (atom_form b)))
      → first_in (shape_in fits bits l) z stages (op_atoms ops ++ tree_atoms (take i xs)) (tree_atoms (drop i xs))
      ≡ at_place k (length (op_atoms ops) + i) (first_in (shape_in fits bits l) z stages (op_atoms ops ++ tree_atoms (take (i + 1) xs)) (tree_atoms (drop (i + 1) xs)))
  tree_turn ops xs i b less item is e =
      turn tree_atom (op_atoms ops) xs i b less item (shape_in fits bits l) z stages k
      (e ∙ tree_tests_same fits bits l z stages (op_atoms ops ++ tree_atoms (take i xs)) old is (atom_form b) i
      (sym (no_trees ops (tree_atoms (take i xs)) ∙ (count_trees (take i xs) ∙ length-take-le i xs (omega arith)))))

pub length_ops : (ops : List OpAtom) → length (op_atoms ops) ≡ length ops
length_ops ops = length-map ops op_atom

later : (k : Option ConfigKind) (n : ℕ) (a b : Option BrokenAtom) → at_place k n (option_or a b) ≡ option_or (at_place k n a) b
later None n a b = refl
later (Some k) n a b = refl

-- the first of two lists is the first of the one, or else of the other
pub first_both : (s : Shape) (z : Sizes) (stages : List StageForm) (before xs ys : List Atom)
    → first_in s z stages before (xs ++ ys) ≡ option_or (first_in s z stages before xs) (first_in s z stages (before ++ xs) ys)
first_both s z stages before [] ys = ap (λ b. first_in s z stages b ys) (sym (append-nil before))
first_both s z stages before (x ∷ xs) ys =
    ap (at_place (broken (atom_tests s z (before_of stages before) x)) (length before)) (first_both s z stages (before ++ x ∷ []) xs ys)
    ∙ later (broken (atom_tests s z (before_of stages before) x)) (length before) (first_in s z stages (before ++ x ∷ []) xs) (first_in s z stages ((before ++ x ∷ []) ++ xs) ys)
    ∙ ap (λ b. option_or (at_place (broken (atom_tests s z (before_of stages before) x)) (length before) (first_in s z stages (before ++ x ∷ []) xs)) (first_in s z stages b ys))
    (append_assoc before (x ∷ []) xs)

trees_are : (atoms : List TreeAtom) → map (λ (a : AtomForm). Stateful a) (map atom_form atoms) ≡ tree_atoms atoms
trees_are [] = refl
trees_are (a ∷ atoms) = ap (λ ys. Stateful (atom_form a) ∷ ys) (trees_are atoms)

-- the atoms of a stage are those of its two lists
pub stage_atoms : (stage : StageParts) (ops : List OpAtom) (trees : List TreeAtom) → ops ≡ stage.stateless → trees ≡ stage.stateful → op_atoms ops ++ tree_atoms trees ≡ atoms_of (stage_form stage)
stage_atoms stage ops trees o t = ap (λ xs. op_atoms xs ++ tree_atoms trees) o ∙ ap (λ ys. op_atoms stage.stateless ++ tree_atoms ys) t ∙ ap (λ ys. op_atoms stage.stateless ++ ys) (sym (trees_are stage.stateful))

-- behind a stage
pub seen_stage : (stages : List StageForm) (stage : StageForm) (old new : Seen) → IsSeen stages (atoms_of stage) old → IsEnded old new → IsSeen (stages ++ stage ∷ []) [] new
seen_stage stages stage old new is ended = record {
  held = ended.held ∙ is.held ∙ sym (append-nil (flat_map stage_arrays (stages ++ stage ∷ [])) ∙ stage_more stage_arrays);
  known = ended.known ∙ ap (λ x. x ++ old.written.numbers) is.known ∙ ap (λ x. flat_map stage_targets stages ++ x) is.written ∙ sym (stage_more stage_targets);
  written = ended.written;
  read = ended.read;
} where
  stage_more : (f : StageForm → List ℕ) → flat_map f (stages ++ stage ∷ []) ≡ flat_map f stages ++ f stage
  stage_more f = flat_map-append f stages (stage ∷ []) ∙ ap (λ y. flat_map f stages ++ y) (append-nil (f stage))

-- stage i of a list
module _ (xs : List StageParts) (i : ℕ) (b : StageParts) (less : i < length xs) (item : b ≡ get_or xs i b) where
  pub stages_more : map stage_form (take (i + 1) xs) ≡ map stage_form (take i xs) ++ stage_form b ∷ []
  stages_more = map_more stage_form xs i b less ∙ ap (λ y. map stage_form (take i xs) ++ stage_form y ∷ []) (sym item)

  pub stage_turn : (s : Shape) (z : Sizes) (k : Option BrokenAtom) → k ≡ first_in s z (map stage_form (take i xs)) [] (atoms_of (stage_form b))
      → first_of s z (map stage_form (take i xs)) (map stage_form (drop i xs)) ≡ in_stage k (i + 1) (first_of s z (map stage_form (take (i + 1) xs)) (map stage_form (drop (i + 1) xs)))
  stage_turn s z k e =
      ap (first_of s z (map stage_form (take i xs))) (ap (map stage_form) (drop_more xs i b less) ∙ ap (λ y. stage_form y ∷ map stage_form (drop (i + 1) xs)) (sym item))
      ∙ ap (λ x. in_stage x (length (map stage_form (take i xs)) + 1) (first_of s z (map stage_form (take i xs) ++ stage_form b ∷ []) (map stage_form (drop (i + 1) xs)))) (sym e)
      ∙ ap (λ n. in_stage k (n + 1) (first_of s z (map stage_form (take i xs) ++ stage_form b ∷ []) (map stage_form (drop (i + 1) xs)))) (length-map (take i xs) stage_form ∙ length-take-le i xs (omega arith))
      ∙ ap (λ ys. in_stage k (i + 1) (first_of s z ys (map stage_form (drop (i + 1) xs)))) (sym stages_more)
