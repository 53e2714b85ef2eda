-- What the rules say of legal parts of version one.
use Rattle.std.proofs.Common.{◌≡◌, ℕ, ◌+◌, ◌<◌, ◌≤◌, ◌≢◌, ◌⊎◌, inl, inr, Bool, true, false, not, ◌&&◌, nat_eq, Option, Some, None, List, [], ◌∷◌, ◌++◌, length, sym, subst, arith}
use Rattle.std.specs.List.{flat_map, list_all, AllByRecursion as Every}
use Rattle.std.proofs.lemmas.Bool.{and_parts, cases_lt, eqb-true}
use Rattle.atom_traits.specs.Form.{TreeForm, count_if, count_of}
use Rattle.banzai_config.specs.declared.parts.Version.{Version}
use Rattle.banzai_config.specs.declared.parts.Version.TheVariants.{One}
use Rattle.banzai_config.specs.Judged.{broken}
use Rattle.banzai_config.specs.Legal.{Before, LegalFor, Shape, Sizes, are_known, are_new, atom_tests, before_of, has_multiplier, has_narrow_constants, has_pattern, has_place, is_known, is_there, may_write, sizes_of, standing_after}
use Rattle.banzai_config.specs.Named.{arrays_of, port_reads, reads_of, stage_targets, targets_of}
use Rattle.banzai_config.specs.Parts.{Atom, PartsForm, Stateful, Stateless, StageForm, atoms_of}
use Rattle.banzai_config.specs.Stages.{AreNumbersLegal, AreOutputsLegal, IsStageLegal, stage_reads}
use Rattle.banzai_config.specs.Walked.{first_in, first_of}
use Rattle.banzai_config.proofs.Fits.{none_here, none_later, stage_here, stage_later}
use Rattle.banzai_config.proofs.Lawful.{legal_first, one_more, tests_hold}
use Rattle.banzai_config.proofs.Staged.{legal_numbers, legal_outputs, legal_stages}
use Rattle.container_plan.specs.Facts.{IsIn, AreDistinct}
use Rattle.container_plan.proofs.Agreed.{IsNarrow}
use Rattle.container_plan.proofs.Every.{Every-append}
use Rattle.container_plan.proofs.Lists.{of_all, of_below, of_known, of_new, known_of}
use Rattle.container_plan.proofs.Made.{every_from, in_append}
use Rattle.container_plan.proofs.Meaning.{AreNarrow}
use Rattle.container_plan.proofs.Order.{in_left, in_right}
use Rattle.container_plan.proofs.Rules.{all_targets, AreReadLater, IsLegalOne, IsReadable}

-- the rules of an atom
pub record IsFine (s : Shape) (z : Sizes) (before : Before) (a : Atom) : Type 0 where
  pub place : has_place s before a ≡ true
  pub there : is_there z a ≡ true
  pub multiplier : has_multiplier s a ≡ true
  pub narrow : has_narrow_constants s a ≡ true
  pub pattern : has_pattern s a ≡ true
  pub arrays : are_new before.held (arrays_of a) ≡ true
  pub known : are_known z.fields before.known (reads_of a) ≡ true
  pub writes : may_write z.version z.fields before.known before.written before.read (reads_of a) (targets_of a) ≡ true

-- an atom that breaks none
pub fine : (s : Shape) (z : Sizes) (before : Before) (a : Atom) → broken (atom_tests s z before a) ≡ None → IsFine s z before a
fine s z before a e =
    let placed = and_parts (has_place s before a) _ (tests_hold (atom_tests s z before a) e) in
    let there = and_parts (is_there z a) _ placed.1 in
    let multiplier = and_parts (has_multiplier s a) _ there.1 in
    let narrow = and_parts (has_narrow_constants s a) _ multiplier.1 in
    let pattern = and_parts (has_pattern s a) _ narrow.1 in
    let arrays = and_parts (are_new before.held (arrays_of a)) _ pattern.1 in
    let known = and_parts (are_known z.fields before.known (reads_of a)) _ arrays.1 in
    let writes = and_parts (may_write z.version z.fields before.known before.written before.read (reads_of a) (targets_of a)) true known.1 in
    record { place = placed.0; there = there.0; multiplier = multiplier.0; narrow = narrow.0; pattern = pattern.0; arrays = arrays.0; known = known.0; writes = writes.0 }

-- In version one each container is written once, and none is a field's.

module _ (fields : ℕ) (known : List ℕ) where
  -- the containers that atoms write, behind those written before
  pub record AreOwn (written targets : List ℕ) : Type 0 where
    pub kept : Every (λ c. fields ≤ c) targets
    pub distinct : AreDistinct targets
    pub unknown : (c : ℕ) → IsIn c targets → IsIn c known → ⊥
    pub unwritten : (c : ℕ) → IsIn c targets → IsIn c written → ⊥

  own_atom : (written read reads targets : List ℕ) → may_write One fields known written read reads targets ≡ true → AreOwn written targets
  own_atom written read reads targets e =
      let halves = and_parts (list_all (λ c. not (is_known fields known c)) targets) (are_new written targets) e in
      let new = of_new written targets halves.1 in
      let out : (c : ℕ) → IsIn c targets → (c < fields) ⊎ IsIn c known → ⊥ = λ c i h. clash (is_known fields known c) (known_of fields known c h) (of_all (λ c. not (is_known fields known c)) targets halves.0 c i) in
      record {
        kept = every_from (λ c. fields ≤ c) targets (λ c i. elim (cases_lt c fields) [ inl h ↦ absurd (out c i (inl h)) | inr h ↦ h ]);
        distinct = new.0;
        unknown = λ c i j. out c i (inr j);
        unwritten = new.1;
      }
    where
      clash : (b : Bool) → b ≡ true → not b ≡ true → ⊥
      clash true e f = cc
      clash false e f = cc

  -- numbers of two lists, each without repetition, with none in common
  pub distinct_join : (xs ys : List ℕ) → AreDistinct xs → AreDistinct ys → ((c : ℕ) → IsIn c ys → IsIn c xs → ⊥) → AreDistinct (xs ++ ys)
  distinct_join [] ys p q out = q
  distinct_join (x ∷ xs) ys p q out = (
    Every-append (λ y. x ≢ y) xs ys p.0 (every_from (λ y. x ≢ y) ys (λ y i e. out y i (inl (sym e)))),
    distinct_join xs ys p.1 q (λ c i j. out c i (inr j)),
  )

  own_both : (written xs ys : List ℕ) → AreOwn written xs → AreOwn (written ++ xs) ys → AreOwn written (xs ++ ys)
  own_both written xs ys a b = record {
    kept = Every-append (λ c. fields ≤ c) xs ys a.kept b.kept;
    distinct = distinct_join xs ys a.distinct b.distinct (λ c i j. b.unwritten c i (in_right c written xs j));
    unknown = λ c i j. elim (in_append c xs ys i) [ inl k ↦ a.unknown c k j | inr k ↦ b.unknown c k j ];
    unwritten = λ c i j. elim (in_append c xs ys i) [ inl k ↦ a.unwritten c k j | inr k ↦ b.unwritten c k (in_left c written xs j) ];
  }

module _ (s : Shape) (z : Sizes) (version : z.version ≡ One) where
  own_atoms : (stages : List StageForm) (before atoms : List Atom) → first_in s z stages before atoms ≡ None → AreOwn z.fields (flat_map stage_targets stages) (flat_map targets_of before) (flat_map targets_of atoms)
  own_atoms stages before [] e = record { kept = tt; distinct = tt; unknown = λ c i j. i; unwritten = λ c i j. i }
  own_atoms stages before (a ∷ atoms) e =
      let known : List ℕ = flat_map stage_targets stages in
      let written : List ℕ = flat_map targets_of before in
      let k = broken (atom_tests s z (before_of stages before) a) in
      let rest = first_in s z stages (before ++ a ∷ []) atoms in
      let here : IsFine s z (before_of stages before) a = fine s z (before_of stages before) a (none_here k (length before) rest e) in
      own_both z.fields known written (targets_of a) (flat_map targets_of atoms)
      (own_atom z.fields known written (flat_map reads_of before) (reads_of a) (targets_of a)
      (subst (λ (v : Version). may_write v z.fields known written (flat_map reads_of before) (reads_of a) (targets_of a) ≡ true) version here.writes))
      (subst (λ ws. AreOwn z.fields known ws (flat_map targets_of atoms)) (one_more targets_of before a) (own_atoms stages (before ++ a ∷ []) atoms (none_later k (length before) rest e)))

  -- the stages from some place on
  pub record AreOnce (before stages : List StageForm) : Type 0 where
    pub kept : Every (λ c. z.fields ≤ c) (flat_map stage_targets stages)
    pub distinct : AreDistinct (flat_map stage_targets stages)
    pub new : (c : ℕ) → IsIn c (flat_map stage_targets stages) → IsIn c (flat_map stage_targets before) → ⊥

  once : (before stages : List StageForm) → first_of s z before stages ≡ None → AreOnce before stages
  once before [] e = record { kept = tt; distinct = tt; new = λ c i j. i }
  once before (stage ∷ stages) e =
      let b = first_in s z before [] (atoms_of stage) in
      let rest = first_of s z (before ++ stage ∷ []) stages in
      let mine : AreOwn z.fields (flat_map stage_targets before) [] (stage_targets stage) = own_atoms before [] (atoms_of stage) (stage_here b (length before + 1) rest e) in
      let later : AreOnce (before ++ stage ∷ []) stages = once (before ++ stage ∷ []) stages (stage_later b (length before + 1) rest e) in
      let more : flat_map stage_targets (before ++ stage ∷ []) ≡ flat_map stage_targets before ++ stage_targets stage = one_more stage_targets before stage in
      let out : (c : ℕ) → IsIn c (flat_map stage_targets stages) → IsIn c (flat_map stage_targets before ++ stage_targets stage) → ⊥ = λ c i j. later.new c i (subst (λ cs. IsIn c cs) (sym more) j) in
      record {
        kept = Every-append (λ c. z.fields ≤ c) (stage_targets stage) (flat_map stage_targets stages) mine.kept later.kept;
        distinct = distinct_join z.fields [] (stage_targets stage) (flat_map stage_targets stages) mine.distinct later.distinct (λ c i j. out c i (in_right c (flat_map stage_targets before) (stage_targets stage) j));
        new = λ c i j. elim (in_append c (stage_targets stage) (flat_map stage_targets stages) i) [
          | inl k ↦ mine.unknown c k j
          | inr k ↦ out c k (in_left c (flat_map stage_targets before) (stage_targets stage) j)
        ];
      }

module _ (s : Shape) (p : PartsForm) where
  within_from : (before stages : List StageForm) → Every (IsStageLegal s p) (standing_after before stages) → Every (λ c. c < p.containers) (flat_map stage_targets stages)
  within_from before [] h = tt
  within_from before (stage ∷ stages) h =
      Every-append (λ c. c < p.containers) (stage_targets stage) (flat_map stage_targets stages) (every_from (λ c. c < p.containers) (stage_targets stage) (of_below p.containers (stage_targets stage) h.0.targets_there)) (within_from (before ++ stage ∷ []) stages h.1)

  later_from : (before stages : List StageForm) (written : List ℕ) → ((c : ℕ) → IsIn c (flat_map stage_targets before) → IsIn c written) → Every (IsStageLegal s p) (standing_after before stages)
      → AreReadLater (length p.fields) written stages
  later_from before [] written f h = tt
  later_from before (stage ∷ stages) written f h = (
    every_from (λ c. (c < length p.fields) ⊎ IsIn c written) (stage_reads stage) (λ c i.
        elim (of_known (length p.fields) (flat_map stage_targets before) c (of_all (is_known (length p.fields) (flat_map stage_targets before)) (stage_reads stage) h.0.known c i)) [ inl low ↦ inl low | inr j ↦ inr (f c j) ]),
    later_from (before ++ stage ∷ []) stages (stage_targets stage ++ written)
        (λ c i. elim (in_append c (flat_map stage_targets before) (stage_targets stage) (subst (λ cs. IsIn c cs) (one_more stage_targets before stage) i)) [
          | inl j ↦ in_right c (stage_targets stage) written (f c j)
          | inr j ↦ in_left c (stage_targets stage) written j
        ])
        h.1,
  )

  few_trees : (t : Option TreeForm) → count_if t ≤ 2
  few_trees None = omega arith
  few_trees (Some t) = omega arith

  narrow_atoms : (atoms : List Atom) → list_all (has_pattern s) atoms ≡ true → Every IsNarrow atoms
  narrow_atoms [] e = tt
  narrow_atoms (Stateless a ∷ atoms) e = (tt, narrow_atoms atoms e)
  narrow_atoms (Stateful a ∷ atoms) e =
      let first = and_parts (nat_eq (count_of a.trees) (length a.slots) && s.fits a.trees) (list_all (has_pattern s) atoms) e in
      let many : count_of a.trees ≡ length a.slots = eqb-true (count_of a.trees) (length a.slots) (and_parts (nat_eq (count_of a.trees) (length a.slots)) (s.fits a.trees) first.0).0 in
      let few : count_of a.trees ≤ 2 = few_trees a.trees.second in
      (omega (arith, many, few), narrow_atoms atoms first.1)

  narrow_from : (before stages : List StageForm) → Every (IsStageLegal s p) (standing_after before stages) → Every AreNarrow stages
  narrow_from before [] h = tt
  narrow_from before (stage ∷ stages) h = (narrow_atoms (atoms_of stage) h.0.patterns, narrow_from (before ++ stage ∷ []) stages h.1)

  module _ (legal : LegalFor s p) where
    pub narrow : Every AreNarrow p.stages
    narrow = narrow_from [] p.stages (legal_stages s p legal)

    pub readable : IsReadable p
    readable =
        let numbers : AreNumbersLegal p = legal_numbers s p legal in
        let outputs : AreOutputsLegal p = legal_outputs s p legal in
        record {
          entered = numbers.room_for_fields;
          within = within_from [] p.stages (legal_stages s p legal);
          earlier = later_from [] p.stages [] (λ c i. i) (legal_stages s p legal);
          shown = every_from (λ c. (c < length p.fields) ⊎ IsIn c (all_targets p.stages)) (flat_map port_reads p.outputs) (λ c i.
              of_known (length p.fields) (flat_map stage_targets p.stages) c (of_all (is_known (length p.fields) (flat_map stage_targets p.stages)) (flat_map port_reads p.outputs) outputs.known c i));
        }

    pub legal_one : p.version ≡ One → IsLegalOne p
    legal_one version =
        let each : AreOnce s (sizes_of p) version [] p.stages = once s (sizes_of p) version [] p.stages (legal_first s p legal) in
        record { readable = readable; kept = each.kept; once = each.distinct }
