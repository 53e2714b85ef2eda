-- The parts with shared containers break no rule.
use Rattle.std.proofs.Common.{◌≡◌, ℕ, suc, ◌+◌, ◌<◌, ◌≤◌, ◌≢◌, ◌⊎◌, inl, inr, Bool, true, false, not, ◌&&◌, ◌||◌, nat_eq, Option, Some, None, List, [], ◌∷◌, ◌++◌, length, map, filter, refl, sym, ap, ◌∙◌, subst, arith, append_assoc, if◌then◌else◌}
use Rattle.std.specs.Prelude.{nat_le, nat_lt}
use Rattle.std.specs.List.{flat_map, range_with_len, AllByRecursion as Every}
use Rattle.std.specs.Option.{option_or}
use Rattle.std.proofs.lemmas.Bool.{and_from, and_parts, eq-eqb, le-leb, leb-true}
use Rattle.std.proofs.lemmas.Grind.{flat_map-append}
use Rattle.std.proofs.lemmas.List.FromFn.{length-range_with_len}
use Rattle.atom_traits.specs.declared.operation.StatelessOp.{StatelessOp}
use Rattle.atom_traits.specs.declared.operation.StatelessOp.TheVariants.{Un, Bin, Cond, Hash as HashOf}
use Rattle.atom_traits.specs.declared.tree.Port.{Port}
use Rattle.atom_traits.specs.declared.tree.Port.TheVariants as port
use Rattle.atom_traits.specs.FitsLaws.{states_blind, within_blind}
use Rattle.atom_traits.specs.Form.{TreeForm, TreesForm, count_if, count_of}
use Rattle.atom_traits.specs.Operation.{needs_multiplier, operation_has_args, operation_renamed}
use Rattle.atom_traits.specs.Renamed.{port_renamed, renamed, second_renamed}
use Rattle.atom_traits.specs.Tests.{name_states}
use Rattle.banzai_config.specs.declared.fault.ConfigKind.{ConfigKind}
use Rattle.banzai_config.specs.declared.parts.Version.TheVariants.{One, Two}
use Rattle.banzai_config.specs.Checked.{atom_says, first_output, outputs_say, says_if}
use Rattle.banzai_config.specs.Judged.{broken}
use Rattle.banzai_config.specs.Legal.{Before, LegalFor, Shape, Sizes, Test, are_below, are_counts_right, are_known, are_names, are_new, atom_tests, before_of, count, has_good_numbers, has_multiplier, has_narrow_constants, has_pattern, has_place, have_words, head_holds, is_known, is_modulus_small, is_stateful, is_stateless, may_write, name_of_array, output_tests, rules_of, sizes_of}
use Rattle.banzai_config.specs.Named.{arrays_of, port_reads, reads_of, stage_arrays, stage_targets, targets_of}
use Rattle.banzai_config.specs.Parts.{Atom, PartsForm, Stateful, Stateless, StageForm, atoms_of}
use Rattle.banzai_config.specs.Walked.{at_place, first_in, first_of, in_stage}
use Rattle.banzai_config.proofs.Broken.{rest_broken}
use Rattle.banzai_config.proofs.Fits.{none_here, none_later, stage_here, stage_later}
use Rattle.banzai_config.proofs.Lawful.{all_hold, legal_first}
use Rattle.banzai_config.proofs.Staged.{legal_outputs}
use Rattle.container_plan.specs.Facts.{IsIn, AreDistinct}
use Rattle.container_plan.specs.Renamed.{atom_renamed, slot_renamed, stage_renamed}
use Rattle.container_plan.specs.Shared.{all_taken, container_of, depth, last, live_at, made, shared}
use Rattle.container_plan.specs.Spans.{is_live, number_in}
use Rattle.container_plan.proofs.Apart.{is_value, name_within, reached, shared_legal, shared_number}
use Rattle.container_plan.proofs.Count.{greatest_le}
use Rattle.container_plan.proofs.Every.{Every-always, distinct_first, distinct_left, distinct_right}
use Rattle.container_plan.proofs.Lawful.{IsFine, fine, legal_one}
use Rattle.container_plan.proofs.Lists.{apart_of, below_of, known_of, new_of, of_all, of_known}
use Rattle.container_plan.proofs.Made.{choose_yes, every_at, in_append}
use Rattle.container_plan.proofs.Order.{in_left, in_right}
use Rattle.container_plan.proofs.Renaming.{all_targets_renamed, arrays_kept, atom_arrays, atom_reads, atom_targets, atoms_renamed, map-append}
use Rattle.container_plan.proofs.Rules.{all_targets, IsApart, IsLegalOne}

-- What new container numbers leave as it is.

length_map : {X Y : Type 0} (f : X → Y) (xs : List X) → length (map f xs) ≡ length xs
length_map f [] = refl
length_map f (x ∷ xs) = ap (λ n. suc n) (length_map f xs)

module _ (name : ℕ → ℕ) where
  count_stateless : (atoms : List Atom) → count is_stateless (map (atom_renamed name) atoms) ≡ count is_stateless atoms
  count_stateless [] = refl
  count_stateless (Stateless a ∷ atoms) = ap (λ n. 1 + n) (count_stateless atoms)
  count_stateless (Stateful a ∷ atoms) = ap (λ n. 0 + n) (count_stateless atoms)

  count_stateful : (atoms : List Atom) → count is_stateful (map (atom_renamed name) atoms) ≡ count is_stateful atoms
  count_stateful [] = refl
  count_stateful (Stateless a ∷ atoms) = ap (λ n. 0 + n) (count_stateful atoms)
  count_stateful (Stateful a ∷ atoms) = ap (λ n. 1 + n) (count_stateful atoms)

  place_kept : (s : Shape) (stages others : List StageForm) (before : List Atom) (a : Atom) → has_place s (before_of others (map (atom_renamed name) before)) (atom_renamed name a) ≡ has_place s (before_of stages before) a
  place_kept s stages others before (Stateless a) = ap (λ n. nat_lt n s.stateless) (count_stateless before)
  place_kept s stages others before (Stateful a) = ap (λ n. nat_lt n s.stateful) (count_stateful before)

  needs_kept : (op : StatelessOp) → needs_multiplier (operation_renamed name op) ≡ needs_multiplier op
  needs_kept (Un op a) = refl
  needs_kept (Bin op a b) = refl
  needs_kept (Cond c a b) = refl
  needs_kept (HashOf unit modulus args) = refl

  multiplier_kept : (s : Shape) (a : Atom) → has_multiplier s (atom_renamed name a) ≡ has_multiplier s a
  multiplier_kept s (Stateless a) = ap (λ b. s.multiplies || not b) (needs_kept a.op)
  multiplier_kept s (Stateful a) = refl

  narrow_kept : (s : Shape) (a : Atom) → has_narrow_constants s (atom_renamed name a) ≡ has_narrow_constants s a
  narrow_kept s (Stateless a) = refl
  narrow_kept s (Stateful a) = within_blind name s.bits a.trees

  args_kept : (op : StatelessOp) → operation_has_args (operation_renamed name op) ≡ operation_has_args op
  args_kept (Un op a) = refl
  args_kept (Bin op a b) = refl
  args_kept (Cond c a b) = refl
  args_kept (HashOf unit modulus args) = ap (λ n. nat_eq n unit.args) (length_map (port_renamed name) args)

  modulus_kept : (op : StatelessOp) → is_modulus_small (operation_renamed name op) ≡ is_modulus_small op
  modulus_kept (Un op a) = refl
  modulus_kept (Bin op a b) = refl
  modulus_kept (Cond c a b) = refl
  modulus_kept (HashOf unit modulus args) = refl

  numbers_kept : (a : Atom) → has_good_numbers (atom_renamed name a) ≡ has_good_numbers a
  numbers_kept (Stateless a) = ap (λ b. b && is_modulus_small (operation_renamed name a.op)) (args_kept a.op) ∙ ap (λ b. operation_has_args a.op && b) (modulus_kept a.op)
  numbers_kept (Stateful a) = ap (λ n. name_states n (renamed name a.trees)) (length_map (slot_renamed name) a.slots) ∙ states_blind name (length a.slots) a.trees

  trees_kept : (t : Option TreeForm) → count_if (second_renamed name t) ≡ count_if t
  trees_kept None = refl
  trees_kept (Some t) = refl

  pattern_kept : (s : Shape) → ((f : ℕ → ℕ) (t : TreesForm) → s.fits (renamed f t) ≡ s.fits t) → (a : Atom) → has_pattern s (atom_renamed name a) ≡ has_pattern s a
  pattern_kept s blind (Stateless a) = refl
  pattern_kept s blind (Stateful a) =
      ap (λ n. nat_eq n (length (map (slot_renamed name) a.slots)) && s.fits (renamed name a.trees)) (trees_kept a.trees.second)
      ∙ ap (λ n. nat_eq (count_of a.trees) n && s.fits (renamed name a.trees)) (length_map (slot_renamed name) a.slots)
      ∙ ap (λ b. nat_eq (count_of a.trees) (length a.slots) && b) (blind name a.trees)

  stages_arrays : (stages : List StageForm) → flat_map stage_arrays (map (stage_renamed name) stages) ≡ flat_map stage_arrays stages
  stages_arrays [] = refl
  stages_arrays (t ∷ stages) =
      ap (λ z. z ++ flat_map stage_arrays (map (stage_renamed name) stages)) (ap (λ (atoms : List Atom). flat_map arrays_of atoms) (atoms_renamed name t) ∙ arrays_kept name (atoms_of t))
      ∙ ap (λ z. stage_arrays t ++ z) (stages_arrays stages)

-- An atom among others that write nothing twice, and nothing that one of them reads.

abbrev AreApartAtoms : List Atom → Type 0
AreApartAtoms atoms = AreDistinct (flat_map targets_of atoms) × Every (λ c. Every (λ d. c ≢ d) (flat_map targets_of atoms)) (flat_map reads_of atoms)

in_front : (f : Atom → List ℕ) (before rest : List Atom) (c : ℕ) → IsIn c (flat_map f before) → IsIn c (flat_map f (before ++ rest))
in_front f before rest c i = subst (λ cs. IsIn c cs) (sym (flat_map-append f before rest)) (in_left c (flat_map f before) (flat_map f rest) i)

in_here : (f : Atom → List ℕ) (before : List Atom) (a : Atom) (rest : List Atom) (c : ℕ) → IsIn c (f a) → IsIn c (flat_map f (before ++ a ∷ rest))
in_here f before a rest c i = subst (λ cs. IsIn c cs) (sym (flat_map-append f before (a ∷ rest))) (in_right c (flat_map f before) (f a ++ flat_map f rest) (in_left c (f a) (flat_map f rest) i))

writes_two : (fields : ℕ) (known : List ℕ) (before : List Atom) (a : Atom) (rest : List Atom) → AreApartAtoms (before ++ a ∷ rest)
    → may_write Two fields known (flat_map targets_of before) (flat_map reads_of before) (reads_of a) (targets_of a) ≡ true
writes_two fields known before a rest h =
    let all : List Atom = before ++ a ∷ rest in
    let written : List ℕ = flat_map targets_of before in
    let later : List ℕ = targets_of a ++ flat_map targets_of rest in
    let clash : (c : ℕ) → IsIn c (flat_map reads_of all) → IsIn c (flat_map targets_of all) → ⊥ = λ c i j.
    every_at (λ d. c ≢ d) c (flat_map targets_of all) (every_at (λ c. Every (λ d. c ≢ d) (flat_map targets_of all)) c (flat_map reads_of all) h.1 i) j refl in
    let distinct : AreDistinct (written ++ later) = subst AreDistinct (flat_map-append targets_of before (a ∷ rest)) h.0 in
    and_from _ _ (apart_of written (reads_of a) (λ c i j. clash c (in_here reads_of before a rest c i) (in_front targets_of before (a ∷ rest) c j)))
    (and_from _ _
    (apart_of (flat_map reads_of before ++ reads_of a) (targets_of a) (λ c i j. elim (in_append c (flat_map reads_of before) (reads_of a) j) [
      | inl k ↦ clash c (in_front reads_of before (a ∷ rest) c k) (in_here targets_of before a rest c i)
      | inr k ↦ clash c (in_here reads_of before a rest c k) (in_here targets_of before a rest c i)
    ]))
    (new_of written (targets_of a)
    (λ c i j. every_at (λ d. c ≢ d) c later (every_at (λ c. Every (λ d. c ≢ d) later) c written (distinct_left written later distinct) j) (in_left c (targets_of a) (flat_map targets_of rest) i) refl)
    (distinct_first (targets_of a) (flat_map targets_of rest) (distinct_right written later distinct))))

-- Rules that all hold.

kept_none : (b : Bool) (x : Option ConfigKind) (k : ConfigKind) → b ≡ true → x ≡ None → (if b then x else Some k) ≡ None
kept_none true x k e f = f
kept_none false x k e f = absurd (cc)

none_broken : (ts : List Test) → Every (λ (t : Test). t.holds ≡ true) ts → broken ts ≡ None
none_broken [] h = refl
none_broken (t ∷ ts) h = kept_none t.holds (broken ts) t.kind h.0 (none_broken ts h.1)

unbroken : (s : Shape) (z : Sizes) (before : Before) (a : Atom) → IsFine s z before a → broken (atom_tests s z before a) ≡ None
unbroken s z before a h = none_broken (atom_tests s z before a) (h.place, (h.there, (h.multiplier, (h.narrow, (h.pattern, (h.arrays, (h.known, (h.writes, tt))))))))

few_pass : {X : Type 0} (p : X → Bool) (xs : List X) → length (filter p xs) ≤ length xs
few_pass p [] = omega arith
few_pass p (x ∷ xs) = by_case (p x) (few_pass p xs)
  where
    by_case : (b : Bool) → length (filter p xs) ≤ length xs → length (if b then x ∷ filter p xs else filter p xs) ≤ suc (length xs)
    by_case true h = omega arith
    by_case false h = omega arith

-- there are no more containers than before
few_live : (p : PartsForm) (k : ℕ) → live_at p k ≤ p.containers
few_live p k =
    let those : length (filter (λ v. nat_le (made p v) (depth p) && is_live (made p) (last p) k v) (range_with_len 0 p.containers)) ≤ length (range_with_len 0 p.containers) =
    few_pass (λ v. nat_le (made p v) (depth p) && is_live (made p) (last p) k v) (range_with_len 0 p.containers) in
    omega (arith, those, length-range_with_len 0 p.containers)

pub few : (p : PartsForm) → IsLegalOne p → (shared p).containers ≤ p.containers
few p one =
    let stages : List ℕ = range_with_len 0 (suc (suc (depth p))) in
    omega (arith, shared_number p one, greatest_le (live_at p) p.containers stages (Every-always (λ k. live_at p k ≤ p.containers) (few_live p) stages))

module _ (s : Shape) (blind : (f : ℕ → ℕ) (t : TreesForm) → s.fits (renamed f t) ≡ s.fits t) (p : PartsForm) (legal : LegalFor s p) (version : p.version ≡ One) where
  one : IsLegalOne p
  one = legal_one s p legal version

  abbrev name : ℕ → ℕ
  name v = container_of p v

  abbrev fields : ℕ
  fields = length p.fields

  abbrev new : Sizes
  new = sizes_of (shared p)

  abbrev ren : Atom → Atom
  ren a = atom_renamed name a

  abbrev rens : List Atom → List Atom
  rens atoms = map (atom_renamed name) atoms

  abbrev stages_new : List StageForm → List StageForm
  stages_new stages = map (stage_renamed name) stages

  -- a container of a field or of what is written is there
  within : (c : ℕ) → (c < fields) ⊎ IsIn c (all_targets p.stages) → name c < number_in (all_taken p)
  within c h = let v = is_value p one c h in name_within p one c v.0 v.1

  map_below : (cs : List ℕ) → ((c : ℕ) → IsIn c cs → (c < fields) ⊎ IsIn c (all_targets p.stages)) → are_below (number_in (all_taken p)) (map name cs) ≡ true
  map_below [] f = refl
  map_below (c ∷ cs) f = and_from _ _ (below_head c (f c (inl refl))) (map_below cs (λ d i. f d (inr i)))
    where
      below_head : (c : ℕ) → (c < fields) ⊎ IsIn c (all_targets p.stages) → nat_lt (name c) (number_in (all_taken p)) ≡ true
      below_head c h = of_all (λ d. nat_lt d (number_in (all_taken p))) (name c ∷ []) (below_of (number_in (all_taken p)) (name c ∷ []) (λ d i. elim i [ inl is ↦ subst (λ z. z < number_in (all_taken p)) (sym is) (within c h) | inr j ↦ absurd j ])) (name c) (inl refl)

  map_known : (written cs : List ℕ) → ((c : ℕ) → IsIn c cs → (c < fields) ⊎ IsIn c written) → are_known fields (map name written) (map name cs) ≡ true
  map_known written [] f = refl
  map_known written (c ∷ cs) f = and_from _ _ (known_of fields (map name written) (name c) (reached p one written c (f c (inl refl)))) (map_known written cs (λ d i. f d (inr i)))

  module _ (stages : List StageForm) (inside : (c : ℕ) → IsIn c (flat_map stage_targets stages) → IsIn c (all_targets p.stages)) where
    fine_new : (before : List Atom) (a : Atom) (rest : List Atom) → ((c : ℕ) → IsIn c (targets_of a) → IsIn c (all_targets p.stages)) → AreApartAtoms (rens before ++ ren a ∷ rens rest)
        → IsFine s (sizes_of p) (before_of stages before) a → IsFine s new (before_of (stages_new stages) (rens before)) (ren a)
    fine_new before a rest mine apart h =
        let halves = and_parts (are_below p.containers (reads_of a) && are_below p.containers (targets_of a)) (are_below (length p.arrays) (arrays_of a) && has_good_numbers a) h.there in
        let others = and_parts (are_below (length p.arrays) (arrays_of a)) (has_good_numbers a) halves.1 in
        let known : (c : ℕ) → IsIn c (reads_of a) → (c < fields) ⊎ IsIn c (flat_map stage_targets stages) = λ c i.
        of_known fields (flat_map stage_targets stages) c (of_all (is_known fields (flat_map stage_targets stages)) (reads_of a) h.known c i) in
        let values : (c : ℕ) → IsIn c (reads_of a) → (c < fields) ⊎ IsIn c (all_targets p.stages) = λ c i. elim (known c i) [ inl low ↦ inl low | inr j ↦ inr (inside c j) ] in
        record {
          place = place_kept name s stages (stages_new stages) before a ∙ h.place;
          there = and_from _ _
              (and_from _ _ (ap (λ cs. are_below (number_in (all_taken p)) cs) (atom_reads name a) ∙ map_below (reads_of a) values)
              (ap (λ cs. are_below (number_in (all_taken p)) cs) (atom_targets name a) ∙ map_below (targets_of a) (λ c i. inr (mine c i))))
              (and_from _ _ (ap (λ ks. are_below (length p.arrays) ks) (atom_arrays name a) ∙ others.0) (numbers_kept name a ∙ others.1));
          multiplier = multiplier_kept name s a ∙ h.multiplier;
          narrow = narrow_kept name s a ∙ h.narrow;
          pattern = pattern_kept name s blind a ∙ h.pattern;
          arrays = ap (λ ks. are_new (ks ++ flat_map arrays_of (rens before)) (arrays_of (ren a))) (stages_arrays name stages)
              ∙ ap (λ ks. are_new (flat_map stage_arrays stages ++ ks) (arrays_of (ren a))) (arrays_kept name before)
              ∙ ap (λ ks. are_new (flat_map stage_arrays stages ++ flat_map arrays_of before) ks) (atom_arrays name a) ∙ h.arrays;
          known = ap (λ ws. are_known fields ws (reads_of (ren a))) (all_targets_renamed name stages) ∙ ap (λ cs. are_known fields (map name (flat_map stage_targets stages)) cs) (atom_reads name a)
              ∙ map_known (flat_map stage_targets stages) (reads_of a) known;
          writes = writes_two fields (flat_map stage_targets (stages_new stages)) (rens before) (ren a) (rens rest) apart;
        }

    atoms_new : (before atoms : List Atom) → ((c : ℕ) → IsIn c (flat_map targets_of atoms) → IsIn c (all_targets p.stages)) → AreApartAtoms (rens before ++ rens atoms)
        → first_in s (sizes_of p) stages before atoms ≡ None → first_in s new (stages_new stages) (rens before) (rens atoms) ≡ None
    atoms_new before [] mine apart e = refl
    atoms_new before (a ∷ atoms) mine apart e =
        let k = broken (atom_tests s (sizes_of p) (before_of stages before) a) in
        let rest = first_in s (sizes_of p) stages (before ++ a ∷ []) atoms in
        let old : IsFine s (sizes_of p) (before_of stages before) a = fine s (sizes_of p) (before_of stages before) a (none_here k (length before) rest e) in
        let here : IsFine s new (before_of (stages_new stages) (rens before)) (ren a) =
        fine_new before a atoms (λ c i. mine c (in_left c (targets_of a) (flat_map targets_of atoms) i)) apart old in
        let more : rens (before ++ a ∷ []) ≡ rens before ++ ren a ∷ [] = map-append (atom_renamed name) before (a ∷ []) in
        let later : first_in s new (stages_new stages) (rens (before ++ a ∷ [])) (rens atoms) ≡ None =
        atoms_new (before ++ a ∷ []) atoms (λ c i. mine c (in_right c (targets_of a) (flat_map targets_of atoms) i))
        (subst AreApartAtoms (sym (ap (λ (b : List Atom). b ++ rens atoms) more ∙ append_assoc (rens before) (ren a ∷ []) (rens atoms))) apart)
        (none_later k (length before) rest e) in
        ap (λ b. at_place b (length (rens before)) (first_in s new (stages_new stages) (rens before ++ ren a ∷ []) (rens atoms))) (unbroken s new (before_of (stages_new stages) (rens before)) (ren a) here)
        ∙ ap (λ (b : List Atom). first_in s new (stages_new stages) b (rens atoms)) (sym more) ∙ later

  stages_legal : (before stages : List StageForm) → ((c : ℕ) → IsIn c (flat_map stage_targets before) → IsIn c (all_targets p.stages)) → ((c : ℕ) → IsIn c (flat_map stage_targets stages) → IsIn c (all_targets p.stages))
      → Every IsApart (stages_new stages) → first_of s (sizes_of p) before stages ≡ None → first_of s new (stages_new before) (stages_new stages) ≡ None
  stages_legal before [] f g apart e = refl
  stages_legal before (t ∷ stages) f g apart e =
      let b = first_in s (sizes_of p) before [] (atoms_of t) in
      let rest = first_of s (sizes_of p) (before ++ t ∷ []) stages in
      let atoms : atoms_of (stage_renamed name t) ≡ rens (atoms_of t) = atoms_renamed name t in
      let mine : AreApartAtoms (rens (atoms_of t)) = subst AreApartAtoms atoms apart.0 in
      let here : first_in s new (stages_new before) [] (atoms_of (stage_renamed name t)) ≡ None =
      ap (λ (xs : List Atom). first_in s new (stages_new before) [] xs) atoms
      ∙ atoms_new before f [] (atoms_of t) (λ c i. g c (in_left c (stage_targets t) (flat_map stage_targets stages) i)) mine (stage_here b (length before + 1) rest e) in
      let more : stages_new (before ++ t ∷ []) ≡ stages_new before ++ stage_renamed name t ∷ [] = map-append (stage_renamed name) before (t ∷ []) in
      let later : first_of s new (stages_new (before ++ t ∷ [])) (stages_new stages) ≡ None =
      stages_legal (before ++ t ∷ []) stages
      (λ c i. elim (in_append c (flat_map stage_targets before) (stage_targets t ++ []) (subst (λ cs. IsIn c cs) (flat_map-append stage_targets before (t ∷ [])) i)) [
        | inl j ↦ f c j
        | inr j ↦ elim (in_append c (stage_targets t) [] j) [ inl k ↦ g c (in_left c (stage_targets t) (flat_map stage_targets stages) k) | inr k ↦ absurd k ]
      ])
      (λ c i. g c (in_right c (stage_targets t) (flat_map stage_targets stages) i)) apart.1 (stage_later b (length before + 1) rest e) in
      ap (λ x. in_stage x (length (stages_new before) + 1) (first_of s new (stages_new before ++ stage_renamed name t ∷ []) (stages_new stages))) here
      ∙ ap (λ (xs : List StageForm). first_of s new xs (stages_new stages)) (sym more) ∙ later

  abbrev written : List ℕ
  written = flat_map stage_targets (stages_new p.stages)

  output_new : (o : Port) → ((c : ℕ) → IsIn c (port_reads o) → (c < fields) ⊎ IsIn c (all_targets p.stages)) → broken (output_tests new written (port_renamed name o)) ≡ None
  output_new (port.Const w) f = refl
  output_new (port.Container c) f = none_broken (output_tests new written (port.Container (name c))) (
    map_below (c ∷ []) f,
    (ap (λ ws. are_known fields ws (name c ∷ [])) (all_targets_renamed name p.stages) ∙ map_known (all_targets p.stages) (c ∷ []) f, tt),
  )

  outputs_new : (n : ℕ) (outputs : List Port) → ((c : ℕ) → IsIn c (flat_map port_reads outputs) → (c < fields) ⊎ IsIn c (all_targets p.stages)) → first_output new written n (map (port_renamed name) outputs) ≡ None
  outputs_new n [] f = refl
  outputs_new n (o ∷ outputs) f =
      ap (λ x. at_place x n (first_output new written (n + 1) (map (port_renamed name) outputs))) (output_new o (λ c i. f c (in_left c (port_reads o) (flat_map port_reads outputs) i)))
      ∙ outputs_new (n + 1) outputs (λ c i. f c (in_right c (port_reads o) (flat_map port_reads outputs) i))

  head_new : head_holds p ≡ true → head_holds (shared p) ≡ true
  head_new h =
      let head = and_parts (are_counts_right p) (are_names (map name_of_array p.arrays) && are_names p.fields) h in
      let some = and_parts (nat_le 1 (length p.fields)) _ head.0 in
      let fields = and_parts (nat_le (length p.fields) 64) _ some.1 in
      let arrays = and_parts (nat_le (length p.arrays) 32) _ fields.1 in
      let words = and_parts (have_words p.arrays) _ arrays.1 in
      let room = and_parts (nat_le (length p.fields) p.containers) (nat_le p.containers 2048) words.1 in
      let low : p.containers ≤ 2048 = leb-true p.containers 2048 room.1 in
      and_from (are_counts_right (shared p)) _
      (and_from _ _ some.0 (and_from _ _ fields.0 (and_from _ _ arrays.0 (and_from _ _ words.0
      (and_from _ _ (le-leb (length p.fields) (number_in (all_taken p)) (shared_legal p one).readable.entered) (le-leb (number_in (all_taken p)) 2048 (omega (arith, few p one))))))))
      head.1

  pub legal_shared : LegalFor s (shared p)
  legal_shared =
      let head = and_parts (head_holds p) _ (all_hold (rules_of s p) legal) in
      let deep = and_parts (nat_eq (length p.stages) s.depth) _ head.1 in
      let same : nat_eq (length (stages_new p.stages)) s.depth ≡ true = ap (λ n. nat_eq n s.depth) (length_map (stage_renamed name) p.stages) ∙ deep.0 in
      let first : first_of s new [] (stages_new p.stages) ≡ None = stages_legal [] p.stages (λ c i. absurd i) (λ c i. i) (shared_legal p one).apart (legal_first s p legal) in
      let many : nat_eq (length (map (port_renamed name) p.outputs)) fields ≡ true = ap (λ n. nat_eq n fields) (length_map (port_renamed name) p.outputs) ∙ eq-eqb (length p.outputs) fields outputs_are in
      rest_broken s (shared p) (head_new head.0) same
      ∙ ap (λ x. option_or (says_if x) (outputs_say (s.depth + 1) new written (map (port_renamed name) p.outputs))) first
      ∙ choose_yes (nat_eq (length (map (port_renamed name) p.outputs)) fields) (atom_says (s.depth + 1) (first_output new written 0 (map (port_renamed name) p.outputs))) _ many
      ∙ ap (atom_says (s.depth + 1)) (outputs_new 0 p.outputs (λ c i. every_at (λ c. (c < fields) ⊎ IsIn c (all_targets p.stages)) c (flat_map port_reads p.outputs) one.readable.shown i))
    where
      outputs_are : length p.outputs ≡ fields
      outputs_are = (legal_outputs s p legal).as_fields

-- the fields have room
pub room : (s : Shape) (p : PartsForm) → LegalFor s p → p.version ≡ One → length p.fields ≤ (shared p).containers
room s p legal version = (shared_legal p (legal_one s p legal version)).readable.entered
