-- Atoms at their stages do what they are to do.
use Rattle.std.proofs.Common.{◌≡◌, ℕ, zero, suc, ◌+◌, ◌-◌, ◌<◌, ◌≤◌, Bool, true, ◌&&◌, nat_eq, List, [], ◌∷◌, ◌++◌, length, map, refl, sym, ap, ◌∙◌, subst, arith, ◌≢◌, ◌⊎◌, inl, inr, ⊎_elim}
use Rattle.std.proofs.lemmas.Bool.{and_parts, and_from, eqb-true, eq-eqb, cases_eq}
use Rattle.std.specs.Prelude.{slice_index}
use Rattle.std.specs.List.{filter, flat_map, AllByRecursion as Every}
use Rattle.dom_words.specs.State.{Hash, array_of}
use Rattle.codelets.specs.Lists.{IsIn, AreDistinct}
use Rattle.codelets.specs.Linked.{Linked}
use Rattle.codelets.specs.Cut.{cut}
use Rattle.codelets.specs.Containers.{holder}
use Rattle.codelets.proofs.Lists.{in_filter, in_left, in_right, in_flat, flat_in}
use Rattle.codelets.proofs.Order.{every_at}
use Rattle.banzai_config.specs.Action.{Arrays, Write, Export, atom_exports, atom_writes}
use Rattle.banzai_config.specs.Named.{arrays_of, targets_of}
use Rattle.banzai_config.specs.Parts.{Atom, Stateless, Stateful}
use Rattle.compile_law.specs.Compiled.{Staged}
use Rattle.compile_law.proofs.Front.{stage_run, front, AreRight, owned_by}
use Rattle.compile_law.proofs.Planned.{is_single, is_group, at_stage, atoms_from, Known}
use Rattle.compile_law.proofs.Every.{Every-append, Every-weaker, Every-always}
use Rattle.compile_law.proofs.Store.{length-store}
use Rattle.compile_law.proofs.Fronts.{front_right, IsDone}
use Rattle.compile_law.proofs.Right.{IsAtomRight}
use Rattle.compile_law.proofs.Picked.{picked_every, flat-append, flat-map, distinct_append, picked_sub, picked_distinct, picked_apart}

-- lists of arrays that agree everywhere are equal
same_arrays : (a b : Arrays) → length a ≡ length b → ((j : ℕ) → array_of a j ≡ array_of b j) → a ≡ b
same_arrays [] [] e same = refl
same_arrays [] (y ∷ b) e same = absurd (omega arith)
same_arrays (x ∷ a) [] e same = absurd (omega arith)
same_arrays (x ∷ a) (y ∷ b) e same =
    let head : x ≡ y = same 0 in
    let less : length a ≡ length b = omega arith in
    let rest : a ≡ b = same_arrays a b less (λ j. same (suc j)) in
    cc

front-length : {T : Type 0} (ws : T → Arrays → List ℕ → List Write) (es : T → Arrays → List ℕ → List Export) (ss : List (List T)) (arrays : Arrays) (words : List ℕ) → length (front ws es ss arrays words).0 ≡ length arrays
front-length ws es [] arrays words = refl
front-length ws es (s ∷ ss) arrays words =
    front-length ws es ss (stage_run ws es s arrays words).0 (stage_run ws es s arrays words).1 ∙ length-store (flat_map (λ t. ws t arrays words) s) arrays

is_in_or : (xs : List ℕ) (j : ℕ) → IsIn j xs ⊎ Every (λ a. a ≢ j) xs
is_in_or [] j = inr tt
is_in_or (x ∷ xs) j = elim (cases_eq j x) [
  | inl is ↦ inl (inl is)
  | inr ne ↦ elim (is_in_or xs j) [ inl i ↦ inl (inr i) | inr n ↦ inr (λ e. ne (sym e), n) ]
]

module _ (qs : List (Staged)) where
  abbrev atom_of : Staged → Atom
  atom_of q = q.atom

  abbrev owned : Staged → List ℕ
  owned q = arrays_of q.atom

  abbrev single_at : ℕ → Staged → Bool
  single_at k q = is_single q.atom && nat_eq q.stage k

  abbrev group_at : ℕ → Staged → Bool
  group_at k q = is_group q.atom && nat_eq q.stage k

  pub kinds_differ : (p : Atom) → is_single p ≡ true → is_group p ≡ true → ⊥
  kinds_differ (Stateless a) e f = cc
  kinds_differ (Stateful a) e f = cc

  one_kind : (p : Atom) → (is_single p ≡ true) ⊎ (is_group p ≡ true)
  one_kind (Stateless a) = inl refl
  one_kind (Stateful a) = inr refl

  pub in_stage : (k : ℕ) (q : Staged) → IsIn q qs → q.stage ≡ k → IsIn q (at_stage qs k)
  in_stage k q i e = ⊎_elim
      (λ s. in_left (filter (single_at k) qs) (filter (group_at k) qs) q (in_filter (single_at k) qs q i (and_from _ _ s (eq-eqb q.stage k e))))
      (λ g. in_right (filter (single_at k) qs) (filter (group_at k) qs) q (in_filter (group_at k) qs q i (and_from _ _ g (eq-eqb q.stage k e))))
      (one_kind q.atom)

  stage_every : (Q : Staged → Type 0) (k : ℕ) → Every Q qs → Every (λ q. Q q × (q.stage ≡ k)) (at_stage qs k)
  stage_every Q k p =
      Every-append (λ q. Q q × (q.stage ≡ k)) (filter (single_at k) qs) (filter (group_at k) qs)
      (Every-weaker (λ q. Q q × (single_at k q ≡ true)) (λ q. Q q × (q.stage ≡ k)) (λ q h. (h.0, eqb-true q.stage k (and_parts _ _ h.1).1)) (filter (single_at k) qs) (picked_every Q (single_at k) qs p))
      (Every-weaker (λ q. Q q × (group_at k q ≡ true)) (λ q. Q q × (q.stage ≡ k)) (λ q h. (h.0, eqb-true q.stage k (and_parts _ _ h.1).1)) (filter (group_at k) qs) (picked_every Q (group_at k) qs p))

  map_every : (Q : Atom → Type 0) (rs : List (Staged)) → Every (λ q. Q q.atom) rs → Every Q (map atom_of rs)
  map_every Q [] p = tt
  map_every Q (r ∷ rs) p = (p.0, map_every Q rs p.1)

  -- what a stage arrays_of
  stage_owns : (k : ℕ) → flat_map arrays_of (map atom_of (at_stage qs k)) ≡ flat_map owned (filter (single_at k) qs) ++ flat_map owned (filter (group_at k) qs)
  stage_owns k = flat-map arrays_of atom_of (at_stage qs k) ∙ flat-append owned (filter (single_at k) qs) (filter (group_at k) qs)

  stage_sub : (Q : ℕ → Type 0) (k : ℕ) → Every Q (flat_map owned qs) → Every Q (flat_map arrays_of (map atom_of (at_stage qs k)))
  stage_sub Q k p = rw (stage_owns k) (Every-append Q (flat_map owned (filter (single_at k) qs)) (flat_map owned (filter (group_at k) qs)) (picked_sub owned Q (single_at k) qs p) (picked_sub owned Q (group_at k) qs p))

  pub stages_sub : (Q : ℕ → Type 0) (k n : ℕ) → Every Q (flat_map owned qs) → Every Q (owned_by arrays_of (atoms_from qs k n))
  stages_sub Q k zero p = tt
  stages_sub Q k (suc n) p = Every-append Q (flat_map arrays_of (map atom_of (at_stage qs (suc k)))) (owned_by arrays_of (atoms_from qs (suc k) n)) (stage_sub Q (suc k) p) (stages_sub Q (suc k) n p)

  pub in_stages : (k n : ℕ) (q : Staged) (j : ℕ) → IsIn q qs → k < q.stage → q.stage ≤ k + n → IsIn j (owned q) → IsIn j (owned_by arrays_of (atoms_from qs k n))
  in_stages k zero q j i lo hi o = absurd (omega arith)
  in_stages k (suc n) q j i lo hi o = elim (cases_eq q.stage (suc k)) [
    | inl is ↦ in_left (flat_map arrays_of (map atom_of (at_stage qs (suc k)))) (owned_by arrays_of (atoms_from qs (suc k) n)) j (rw (flat-map arrays_of atom_of (at_stage qs (suc k))) (in_flat owned (at_stage qs (suc k)) q j (in_stage (suc k) q i is) o))
    | inr ne ↦ in_right (flat_map arrays_of (map atom_of (at_stage qs (suc k)))) (owned_by arrays_of (atoms_from qs (suc k) n)) j (in_stages (suc k) n q j i (above ne) (omega arith) o)
  ]
    where
      above : q.stage ≢ suc k → suc k < q.stage
      above ne = omega arith

  -- arrays picked at one stage and those of later stages are apart
  later_apart : (t : Staged → Bool) (k : ℕ) → ((q : Staged) → t q ≡ true → q.stage ≤ k) → AreDistinct (flat_map owned qs) → (j n : ℕ) → k ≤ j
      → Every (λ a. Every (λ b. a ≢ b) (owned_by arrays_of (atoms_from qs j n))) (flat_map owned (filter t qs))
  later_apart t k early d j zero h = always (flat_map owned (filter t qs))
    where
      always : (xs : List ℕ) → Every (λ a. Every (λ b. a ≢ b) []) xs
      always [] = tt
      always (x ∷ xs) = (tt, always xs)
  later_apart t k early d j (suc n) h =
      let late : (q : Staged) → t q ≡ true → q.stage ≡ suc j → ⊥ = λ q p e. let le = early q p in omega arith in
      let one : Every (λ a. Every (λ b. a ≢ b) (flat_map owned (filter (single_at (suc j)) qs))) (flat_map owned (filter t qs)) = picked_apart owned t (single_at (suc j)) (λ q p u. late q p (eqb-true q.stage (suc j) (and_parts _ _ u).1)) qs d in
      let two : Every (λ a. Every (λ b. a ≢ b) (flat_map owned (filter (group_at (suc j)) qs))) (flat_map owned (filter t qs)) = picked_apart owned t (group_at (suc j)) (λ q p u. late q p (eqb-true q.stage (suc j) (and_parts _ _ u).1)) qs d in
      let more : k ≤ suc j = omega arith in
      let rest : Every (λ a. Every (λ b. a ≢ b) (owned_by arrays_of (atoms_from qs (suc j) n))) (flat_map owned (filter t qs)) = later_apart t k early d (suc j) n more in
      join (flat_map owned (filter t qs)) one two rest
    where
      join : (xs : List ℕ) → Every (λ a. Every (λ b. a ≢ b) (flat_map owned (filter (single_at (suc j)) qs))) xs → Every (λ a. Every (λ b. a ≢ b) (flat_map owned (filter (group_at (suc j)) qs))) xs
          → Every (λ a. Every (λ b. a ≢ b) (owned_by arrays_of (atoms_from qs (suc j) n))) xs
          → Every (λ a. Every (λ b. a ≢ b) (owned_by arrays_of (atoms_from qs j (suc n)))) xs
      join [] p q r = tt
      join (x ∷ xs) p q r = (Every-append (λ b. x ≢ b) (flat_map arrays_of (map atom_of (at_stage qs (suc j)))) (owned_by arrays_of (atoms_from qs (suc j) n)) (rw (stage_owns (suc j)) (Every-append (λ b. x ≢ b) (flat_map owned (filter (single_at (suc j)) qs)) (flat_map owned (filter (group_at (suc j)) qs)) p.0 q.0)) r.0, join xs p.1 q.1 r.1)

  -- each array stands in one slot of all stages
  pub stages_distinct : (k n : ℕ) → AreDistinct (flat_map owned qs) → AreDistinct (owned_by arrays_of (atoms_from qs k n))
  stages_distinct k zero d = tt
  stages_distinct k (suc n) d =
      let s : List ℕ = flat_map owned (filter (single_at (suc k)) qs) in
      let g : List ℕ = flat_map owned (filter (group_at (suc k)) qs) in
      let rest : List ℕ = owned_by arrays_of (atoms_from qs (suc k) n) in
      let same : (q : Staged) → single_at (suc k) q ≡ true → group_at (suc k) q ≡ true → ⊥ = λ q p r. kinds_differ q.atom (and_parts _ _ p).0 (and_parts _ _ r).0 in
      let here : AreDistinct (s ++ g) = distinct_append s g (picked_distinct owned (single_at (suc k)) qs d) (picked_distinct owned (group_at (suc k)) qs d) (picked_apart owned (single_at (suc k)) (group_at (suc k)) same qs d) in
      let early_s : (q : Staged) → single_at (suc k) q ≡ true → q.stage ≤ suc k = λ q p. let e = eqb-true q.stage (suc k) (and_parts _ _ p).1 in omega arith in
      let early_g : (q : Staged) → group_at (suc k) q ≡ true → q.stage ≤ suc k = λ q p. let e = eqb-true q.stage (suc k) (and_parts _ _ p).1 in omega arith in
      let apart : Every (λ a. Every (λ b. a ≢ b) rest) (s ++ g) =
      Every-append (λ a. Every (λ b. a ≢ b) rest) s g (later_apart (single_at (suc k)) (suc k) early_s d (suc k) n (omega arith)) (later_apart (group_at (suc k)) (suc k) early_g d (suc k) n (omega arith)) in
      subst (λ z. AreDistinct (z ++ rest)) (sym (stage_owns (suc k))) (distinct_append (s ++ g) rest here (stages_distinct (suc k) n d) apart)

module _ (P : Linked) (hash : Hash) (val : ℕ → ℕ) (before after : Arrays) (size depth : ℕ) (qs : List (Staged)) where
  abbrev K : ℕ → ℕ → Type 0
  K = Known P.fields qs

  abbrev right : ℕ → ℕ
  right d = val (holder (cut P) d)

  abbrev Fine : Staged → Type 0
  Fine q = IsAtomRight P val before after hash size K (q.stage - 1) q.atom

  -- what is asked of atoms at their stages
  pub record AreStaged : Type 0 where
    pub fine : Every Fine qs
    pub stages : Every (λ q. (1 ≤ q.stage) × (q.stage ≤ depth)) qs
    pub arrays : AreDistinct (flat_map (λ q. arrays_of q.atom) qs)
    -- a field's container is the field's
    pub entered : (v : ℕ) → v < P.fields → holder (cut P) v ≡ v
    -- arrays of no codelet stay
    pub rest : (j : ℕ) → Every (λ a. a ≢ j) (flat_map (λ q. arrays_of q.atom) qs) → array_of after j ≡ array_of before j
    pub many : length after ≡ length before

  grows : (k d : ℕ) → K (suc k) d → (K k d × (right d ≡ right d)) ⊎ IsIn d (flat_map targets_of (map (atom_of qs) (at_stage qs (suc k))))
  grows k d (inl h) = inl (inl h, refl)
  grows k d (inr (q, i, le, t)) = elim (cases_eq q.stage (suc k)) [
    | inl is ↦ inr (rw (flat-map targets_of (atom_of qs) (at_stage qs (suc k))) (in_flat (λ (r : Staged). targets_of r.atom) (at_stage qs (suc k)) q d (in_stage qs (suc k) q i is) t))
    | inr ne ↦ inl (inr (q, i, less ne, t), refl)
  ]
    where
      less : q.stage ≢ suc k → q.stage ≤ k
      less ne = omega arith

  all_right : Every Fine qs → (k n : ℕ) → AreRight atom_writes (atom_exports hash) arrays_of targets_of (λ j. right) before after size K k (atoms_from qs k n)
  all_right f k zero = tt
  all_right f k (suc n) = (
    map_every qs (IsAtomRight P val before after hash size K k) (at_stage qs (suc k))
        (Every-weaker (λ q. Fine q × (q.stage ≡ suc k)) (λ q. IsAtomRight P val before after hash size K k q.atom) (λ q h. let at : q.stage - 1 ≡ k = omega (arith, h.1) in subst (λ m. IsAtomRight P val before after hash size K m q.atom) at h.0) (at_stage qs (suc k)) (stage_every qs Fine (suc k) f)),
    grows k,
    all_right f (suc k) n,
  )

  -- one packet through all stages: each known container holds the word of its value, and the arrays are those that the statements leave
  pub staged_front : AreStaged → (words : List ℕ) → length words ≡ size → ((v : ℕ) → v < P.fields → slice_index words v ≡ val v)
      → ((d : ℕ) → K depth d → slice_index (front atom_writes (atom_exports hash) (atoms_from qs 0 depth) before words).1 d ≡ val (holder (cut P) d))
      × ((front atom_writes (atom_exports hash) (atoms_from qs 0 depth) before words).0 ≡ after)
  staged_front s words long enter =
      let ss : List (List (Atom)) = atoms_from qs 0 depth in
      let start : (d : ℕ) → K 0 d → slice_index words d ≡ val (holder (cut P) d) = first in
      let own : List ℕ = owned_by arrays_of ss in
      let old : Every (λ a. array_of before a ≡ array_of before a) own = Every-always (λ a. array_of before a ≡ array_of before a) (λ a. refl) own in
      let done : IsDone atom_writes (atom_exports hash) arrays_of targets_of (λ j. right) before after size K 0 ss before words =
      front_right atom_writes (atom_exports hash) arrays_of targets_of (λ j. right) before after size K 0 ss before words long start (all_right s.fine 0 depth) (stages_distinct qs 0 depth s.arrays) old in
      let number : 0 + length ss ≡ depth = omega (arith, count 0 depth) in (
        (λ d h. done.containers d (subst (λ n. K n d) (sym number) h)),
        same_arrays (front atom_writes (atom_exports hash) ss before words).0 after (front-length atom_writes (atom_exports hash) ss before words ∙ sym s.many)
            (λ j. each done j),
      )
    where
      first : (d : ℕ) → K 0 d → slice_index words d ≡ val (holder (cut P) d)
      first d (inl h) = enter d h ∙ ap val (sym (s.entered d h))
      first d (inr (q, i, le, t)) = absurd (let w = every_at (λ (q : Staged). (1 ≤ q.stage) × (q.stage ≤ depth)) qs q s.stages i in let lo : 1 ≤ q.stage = w.0 in omega arith)

      count : (k n : ℕ) → length (atoms_from qs k n) ≡ n
      count k zero = refl
      count k (suc n) = ap (λ m. suc m) (count (suc k) n)

      each : IsDone atom_writes (atom_exports hash) arrays_of targets_of (λ j. right) before after size K 0 (atoms_from qs 0 depth) before words → (j : ℕ)
          → array_of (front atom_writes (atom_exports hash) (atoms_from qs 0 depth) before words).0 j ≡ array_of after j
      each done j = ⊎_elim
          (λ i. let r = flat_in (λ (q : Staged). arrays_of q.atom) qs j i in
          let w = every_at (λ (q : Staged). (1 ≤ q.stage) × (q.stage ≤ depth)) qs r.0 s.stages r.1 in
          let lo : 0 < r.0.stage = w.0 in
          let hi : r.0.stage ≤ 0 + depth = omega (arith, w.1) in
          every_at (λ a. array_of (front atom_writes (atom_exports hash) (atoms_from qs 0 depth) before words).0 a ≡ array_of after a) (owned_by arrays_of (atoms_from qs 0 depth)) j
          done.owned (in_stages qs 0 depth r.0 j r.1 lo hi r.2))
          (λ ne. done.others j (stages_sub qs (λ a. a ≢ j) 0 depth ne) ∙ sym (s.rest j ne))
          (is_in_or (flat_map (λ (q : Staged). arrays_of q.atom) qs) j)
