-- Stages of atoms that are lawful in themselves break no rule where they stand.
use Rattle.std.proofs.Common.{◌≡◌, ℕ, zero, suc, ◌+◌, ◌-◌, ◌<◌, ◌≤◌, Bool, true, false, not, ◌&&◌, nat_eq, nat_lt, Option, Some, None, List, [], ◌∷◌, ◌++◌, length, map, refl, sym, ap, ◌∙◌, subst, arith, ◌≢◌, ◌⊎◌, inl, inr, ⊎_elim, append_assoc, if◌then◌else◌}
use Rattle.std.specs.List.{filter, flat_map, list_all, AllByRecursion as Every}
use Rattle.std.proofs.lemmas.Bool.{and_from, and_parts, cases_eq, eq-eqb, eqb-true, le-ltb, lt-ltb, or_from, or_left, or_right}
use Rattle.codelets.specs.Lists.{IsIn, AreDistinct}
use Rattle.codelets.proofs.Lists.{any_in, append_in, filter_in, flat_in, in_any, in_flat, in_left, in_map, in_right, map_in}
use Rattle.codelets.proofs.Order.{every_at}
use Rattle.atom_match.proofs.Given.{all_from}
use Rattle.banzai_config.specs.declared.parts.OpAtom.{OpAtom}
use Rattle.banzai_config.specs.declared.parts.Version.TheVariants.{One}
use Rattle.banzai_config.specs.Legal.{Before, Rule, Shape, Sizes, Violation, are_known, are_new, atom_rules, before_of, count, first_broken, has, has_multiplier, has_narrow_constants, has_pattern, has_place, is_known, is_stateful, is_stateless, is_there, may_write, stage_rules, standing, standing_after}
use Rattle.banzai_config.specs.Named.{arrays_of, reads_of, stage_arrays, stage_targets, targets_of}
use Rattle.banzai_config.specs.Parts.{Atom, AtomForm, Stateless, Stateful, StageForm, atoms_of}
use Rattle.compile_law.specs.Compiled.{Staged, stage_at, stages_from}
use Rattle.compile_law.proofs.Compiled.{stage_atoms}
use Rattle.compile_law.proofs.Every.{Every-append, distinct_left, distinct_right}
use Rattle.compile_law.proofs.Parts.{distinct_in, map_join}
use Rattle.compile_law.proofs.Picked.{distinct_append, flat-append, flat-map, picked_apart, picked_distinct}
use Rattle.compile_law.proofs.Planned.{Known, at_stage, is_group, is_single}
use Rattle.compile_law.proofs.Stages.{in_stage, kinds_differ}

abbrev pub Holds : Rule → Type 0
Holds r = r.test.holds ≡ true

kept : (b : Bool) (x : Option Violation) (v : Violation) → b ≡ true → x ≡ None → (if b then x else Some v) ≡ None
kept true x v e f = f
kept false x v e f = absurd (cc)

-- where all rules hold none is broken
pub none_broken : (rules : List Rule) → Every Holds rules → first_broken rules ≡ None
none_broken [] h = refl
none_broken (r ∷ rules) h = kept r.test.holds (first_broken rules) (record { kind = r.test.kind; stage = r.stage; atom = r.atom }) h.0 (none_broken rules h.1)

not_has : (c : ℕ) (cs : List ℕ) → (IsIn c cs → ⊥) → has c cs ≡ false
not_has c cs none = by_case (has c cs) refl
  where
    by_case : (b : Bool) → has c cs ≡ b → b ≡ false
    by_case false e = refl
    by_case true e =
        let r = in_any (nat_eq c) cs e in
        absurd (none (subst (λ (x : ℕ). IsIn x cs) (sym (eqb-true c r.0 r.2)) r.1))

-- numbers that differ and are not among the earlier ones are new
new_from : (earlier cs : List ℕ) → ((c : ℕ) → IsIn c cs → IsIn c earlier → ⊥) → AreDistinct cs → are_new earlier cs ≡ true
new_from earlier [] none d = refl
new_from earlier (c ∷ cs) none d =
    and_from (not (has c earlier)) (are_new (earlier ++ c ∷ []) cs) (ap not (not_has c earlier (none c (inl refl))))
    (new_from (earlier ++ c ∷ []) cs (λ x i j. by_end x i (append_in earlier (c ∷ []) x j)) d.1)
  where
    by_end : (x : ℕ) → IsIn x cs → IsIn x earlier ⊎ IsIn x (c ∷ []) → ⊥
    by_end x i (inl j) = none x (inr i) j
    by_end x i (inr (inl e)) = every_at (λ y. c ≢ y) cs x d.0 i (sym e)
    by_end x i (inr (inr f)) = f

-- an item with a number of an item is that item, where each number stands in one
distinct_same : (f : Staged → List ℕ) (qs : List Staged) → AreDistinct (flat_map f qs) → (q r : Staged) → IsIn q qs → IsIn r qs → (x : ℕ) → IsIn x (f q) → IsIn x (f r) → q ≡ r
distinct_same f [] d q r i j x a b = absurd i
distinct_same f (y ∷ qs) d q r (inl i) (inl j) x a b = i ∙ sym j
distinct_same f (y ∷ qs) d q r (inl i) (inr j) x a b =
    absurd (every_at (λ w. x ≢ w) (flat_map f qs) x (every_at (λ v. Every (λ w. v ≢ w) (flat_map f qs)) (f y) x (distinct_left (f y) (flat_map f qs) d) (subst (λ (z : Staged). IsIn x (f z)) i a)) (in_flat f qs r x j b) refl)
distinct_same f (y ∷ qs) d q r (inr i) (inl j) x a b =
    absurd (every_at (λ w. x ≢ w) (flat_map f qs) x (every_at (λ v. Every (λ w. v ≢ w) (flat_map f qs)) (f y) x (distinct_left (f y) (flat_map f qs) d) (subst (λ (z : Staged). IsIn x (f z)) j b)) (in_flat f qs q x i a) refl)
distinct_same f (y ∷ qs) d q r (inr i) (inr j) x a b = distinct_same f qs (distinct_right (f y) (flat_map f qs) d) q r i j x a b

-- a number of an item is none of an earlier one
split_apart : (f : Staged → List ℕ) (done : List Staged) (q : Staged) (rest : List Staged) → AreDistinct (flat_map f (done ++ q ∷ rest)) → (x : ℕ) → IsIn x (f q) → IsIn x (flat_map f done) → ⊥
split_apart f [] q rest d x i j = j
split_apart f (r ∷ done) q rest d x i j = by_case (λ b. split_apart f done q rest (distinct_right (f r) (flat_map f (done ++ q ∷ rest)) d) x i b) (append_in (f r) (flat_map f done) x j)
  where
    others : List ℕ
    others = flat_map f (done ++ q ∷ rest)

    by_case : (IsIn x (flat_map f done) → ⊥) → IsIn x (f r) ⊎ IsIn x (flat_map f done) → ⊥
    by_case later (inl a) = every_at (λ w. x ≢ w) others x (every_at (λ v. Every (λ w. v ≢ w) others) (f r) x (distinct_left (f r) others d) a) (in_flat f (done ++ q ∷ rest) q x (in_right done (q ∷ rest) q (inl refl)) i) refl
    by_case later (inr b) = later b

flat_end : (g : StageForm → List ℕ) (before : List StageForm) (t : StageForm) (x : ℕ) → IsIn x (flat_map g (before ++ t ∷ [])) → IsIn x (flat_map g before) ⊎ IsIn x (g t)
flat_end g before t x i = let r = flat_in g (before ++ t ∷ []) x i in by_case r.0 r.2 (append_in before (t ∷ []) r.0 r.1)
  where
    by_case : (u : StageForm) → IsIn x (g u) → IsIn u before ⊎ IsIn u (t ∷ []) → IsIn x (flat_map g before) ⊎ IsIn x (g t)
    by_case u o (inl a) = inl (in_flat g before u x a o)
    by_case u o (inr (inl is)) = inr (subst (λ (v : StageForm). IsIn x (g v)) is o)
    by_case u o (inr (inr f)) = absurd f

flat_front : (g : StageForm → List ℕ) (before : List StageForm) (t : StageForm) (x : ℕ) → IsIn x (flat_map g before) → IsIn x (flat_map g (before ++ t ∷ []))
flat_front g before t x i = let r = flat_in g before x i in in_flat g (before ++ t ∷ []) r.0 x (in_left before (t ∷ []) r.0 r.1) r.2

flat_last : (g : StageForm → List ℕ) (before : List StageForm) (t : StageForm) (x : ℕ) → IsIn x (g t) → IsIn x (flat_map g (before ++ t ∷ []))
flat_last g before t x i = in_flat g (before ++ t ∷ []) t x (in_right before (t ∷ []) t (inl refl)) i

-- as many atoms of a kind as the stage lists
no_stateless : (ys : List AtomForm) → count is_stateless (map (λ a. Stateful a) ys) ≡ 0
no_stateless [] = refl
no_stateless (y ∷ ys) = let p = no_stateless ys in omega (arith, p)

all_stateful : (ys : List AtomForm) → count is_stateful (map (λ a. Stateful a) ys) ≡ length ys
all_stateful [] = refl
all_stateful (y ∷ ys) = let p = all_stateful ys in omega (arith, p)

count_stateless : (xs : List OpAtom) (ys : List AtomForm) → count is_stateless (map (λ a. Stateless a) xs ++ map (λ a. Stateful a) ys) ≡ length xs
count_stateless [] ys = no_stateless ys
count_stateless (x ∷ xs) ys = let p = count_stateless xs ys in omega (arith, p)

count_stateful : (xs : List OpAtom) (ys : List AtomForm) → count is_stateful (map (λ a. Stateless a) xs ++ map (λ a. Stateful a) ys) ≡ length ys
count_stateful [] ys = all_stateful ys
count_stateful (x ∷ xs) ys = let p = count_stateful xs ys in omega (arith, p)

one_more_than : (b : Bool) (n : ℕ) → b ≡ true → 0 < (if b then 1 else 0) + n
one_more_than true n e = omega arith
one_more_than false n e = absurd (cc)

fewer : (t : Atom → Bool) (done : List Staged) (q : Staged) (rest : List Staged) → t q.atom ≡ true → count t (map (λ (r : Staged). r.atom) done) < count t (map (λ (r : Staged). r.atom) (done ++ q ∷ rest))
fewer t [] q rest e =
    one_more_than (t q.atom) (count t (map (λ (r : Staged). r.atom) rest)) e
fewer t (r ∷ done) q rest e = let p = fewer t done q rest e in omega (arith, p)

abbrev atom_of : Staged → Atom
atom_of q = q.atom

module _ (s : Shape) (fields arrays size : ℕ) (qs : List Staged) where
  abbrev pub sizes : Sizes
  sizes = record { version = One; fields = fields; arrays = arrays; containers = size }

  -- the rules that look at an atom alone
  pub record IsFit (a : Atom) : Type 0 where
    pub there : is_there sizes a ≡ true
    pub multiplier : has_multiplier s a ≡ true
    pub narrow : has_narrow_constants s a ≡ true
    pub pattern : has_pattern s a ≡ true

  -- what makes atoms at their stages legal
  pub record AreLawful : Type 0 where
    pub fit : (q : Staged) → IsIn q qs → IsFit q.atom
    pub reads : (q : Staged) → IsIn q qs → (r : ℕ → Bool) → ((c : ℕ) → Known fields qs (q.stage - 1) c → r c ≡ true) → list_all r (reads_of q.atom) ≡ true
    pub late : (q : Staged) → IsIn q qs → (c : ℕ) → IsIn c (targets_of q.atom) → fields ≤ c
    pub arrays_once : AreDistinct (flat_map (λ (q : Staged). arrays_of q.atom) qs)
    pub targets_once : AreDistinct (flat_map (λ (q : Staged). targets_of q.atom) qs)
    pub widths : (k : ℕ) → (length (stage_at qs k).stateless ≤ s.stateless) × (length (stage_at qs k).stateful ≤ s.stateful)
    pub stages : (q : Staged) → IsIn q qs → 1 ≤ q.stage

  -- what stands at a stage
  at_in : (k : ℕ) (q : Staged) → IsIn q (at_stage qs k) → IsIn q qs × (q.stage ≡ k)
  at_in k q i = ⊎_elim
      (λ a. let f = filter_in (λ (r : Staged). is_single r.atom && nat_eq r.stage k) qs q a in (f.0, eqb-true q.stage k (and_parts (is_single q.atom) (nat_eq q.stage k) f.1).1))
      (λ a. let f = filter_in (λ (r : Staged). is_group r.atom && nat_eq r.stage k) qs q a in (f.0, eqb-true q.stage k (and_parts (is_group q.atom) (nat_eq q.stage k) f.1).1))
      (append_in (filter (λ (r : Staged). is_single r.atom && nat_eq r.stage k) qs) (filter (λ (r : Staged). is_group r.atom && nat_eq r.stage k) qs) q i)

  from_stage : (g : Atom → List ℕ) (k x : ℕ) → IsIn x (flat_map g (atoms_of (stage_at qs k))) → (r : Staged) × IsIn r qs × (r.stage ≡ k) × IsIn x (g r.atom)
  from_stage g k x i =
      let a = flat_in g (map atom_of (at_stage qs k)) x (subst (λ (list : List Atom). IsIn x (flat_map g list)) (stage_atoms qs k) i) in
      let q = map_in atom_of (at_stage qs k) a.0 a.1 in
      let at = at_in k q.0 q.1 in
      (q.0, at.0, at.1, subst (λ (b : Atom). IsIn x (g b)) q.2 a.2)

  pub to_stage : (g : Atom → List ℕ) (k x : ℕ) (r : Staged) → IsIn r qs → r.stage ≡ k → IsIn x (g r.atom) → IsIn x (flat_map g (atoms_of (stage_at qs k)))
  to_stage g k x r i e o = subst (λ (list : List Atom). IsIn x (flat_map g list)) (sym (stage_atoms qs k)) (in_flat g (map atom_of (at_stage qs k)) r.atom x (in_map atom_of (at_stage qs k) r (in_stage qs k r i e)) o)

  -- each number of the atoms of a stage stands in one
  stage_distinct : (f : Staged → List ℕ) (k : ℕ) → AreDistinct (flat_map f qs) → AreDistinct (flat_map f (at_stage qs k))
  stage_distinct f k d =
      let t : Staged → Bool = λ r. is_single r.atom && nat_eq r.stage k in
      let u : Staged → Bool = λ r. is_group r.atom && nat_eq r.stage k in
      let differ : (q : Staged) → t q ≡ true → u q ≡ true → ⊥ = λ q p r. kinds_differ qs q.atom (and_parts (is_single q.atom) (nat_eq q.stage k) p).0 (and_parts (is_group q.atom) (nat_eq q.stage k) r).0 in
      subst AreDistinct (sym (flat-append f (filter t qs) (filter u qs)))
      (distinct_append (flat_map f (filter t qs)) (flat_map f (filter u qs)) (picked_distinct f t qs d) (picked_distinct f u qs d) (picked_apart f t u differ qs d))

  -- the stages before stage k + 1
  record IsSoFar (k : ℕ) (before : List StageForm) : Type 0 where
    held : (x : ℕ) → IsIn x (flat_map stage_arrays before) → (r : Staged) × IsIn r qs × (r.stage ≤ k) × IsIn x (arrays_of r.atom)
    written : (x : ℕ) → IsIn x (flat_map stage_targets before) → (r : Staged) × IsIn r qs × (r.stage ≤ k) × IsIn x (targets_of r.atom)
    known : (r : Staged) (x : ℕ) → IsIn r qs → r.stage ≤ k → IsIn x (targets_of r.atom) → IsIn x (flat_map stage_targets before)

  module _ (lawful : AreLawful) where
    none_yet : IsSoFar 0 []
    none_yet = record {
      held = λ x i. absurd i;
      written = λ x i. absurd i;
      known = λ r x i le o. absurd (let lo = lawful.stages r i in omega (arith, lo, le));
    }

    one_more : (k : ℕ) (before : List StageForm) → IsSoFar k before → IsSoFar (suc k) (before ++ stage_at qs (suc k) ∷ [])
    one_more k before so = record {
      held = λ x i. ⊎_elim (λ a. let r = so.held x a in (r.0, r.1, up r.0 r.2, r.3)) (λ b. let r = from_stage arrays_of (suc k) x b in (r.0, r.1, here r.0 r.2, r.3)) (flat_end stage_arrays before (stage_at qs (suc k)) x i);
      written = λ x i. ⊎_elim (λ a. let r = so.written x a in (r.0, r.1, up r.0 r.2, r.3)) (λ b. let r = from_stage targets_of (suc k) x b in (r.0, r.1, here r.0 r.2, r.3)) (flat_end stage_targets before (stage_at qs (suc k)) x i);
      known = λ r x i le o. by_stage r x i le o (cases_eq r.stage (suc k));
    }
      where
        up : (r : Staged) → r.stage ≤ k → r.stage ≤ suc k
        up r le = omega (arith, le)

        here : (r : Staged) → r.stage ≡ suc k → r.stage ≤ suc k
        here r is = omega (arith, is)

        by_stage : (r : Staged) (x : ℕ) → IsIn r qs → r.stage ≤ suc k → IsIn x (targets_of r.atom) → (r.stage ≡ suc k) ⊎ (r.stage ≢ suc k) → IsIn x (flat_map stage_targets (before ++ stage_at qs (suc k) ∷ []))
        by_stage r x i le o (inl is) = flat_last stage_targets before (stage_at qs (suc k)) x (to_stage targets_of (suc k) x r i is o)
        by_stage r x i le o (inr ne) = flat_front stage_targets before (stage_at qs (suc k)) x (so.known r x i (let less : r.stage ≤ k = omega arith in less) o)

    -- an atom at its place
    module _ (k : ℕ) (before : List StageForm) (so : IsSoFar k before) (done : List Staged) (q : Staged) (rest : List Staged) (e : at_stage qs (suc k) ≡ done ++ q ∷ rest) where
      abbrev ahead : Before
      ahead = before_of before (map atom_of done)

      stands : IsIn q qs × (q.stage ≡ suc k)
      stands = at_in (suc k) q (subst (λ (xs : List Staged). IsIn q xs) (sym e) (in_right done (q ∷ rest) q (inl refl)))

      apart : (f : Staged → List ℕ) → AreDistinct (flat_map f qs) → (x : ℕ) → IsIn x (f q) → IsIn x (flat_map f done) → ⊥
      apart f d x i j = split_apart f done q rest (subst (λ (xs : List Staged). AreDistinct (flat_map f xs)) e (stage_distinct f (suc k) d)) x i j

      -- an earlier stage's atom is another
      not_this : (f : Staged → List ℕ) → AreDistinct (flat_map f qs) → (r : Staged) → IsIn r qs → r.stage ≤ k → (x : ℕ) → IsIn x (f q) → IsIn x (f r) → ⊥
      not_this f d r j le x a b =
          let same : q.stage ≡ r.stage = ap (λ (y : Staged). y.stage) (distinct_same f qs d q r stands.0 j x a b) in
          let at : q.stage ≡ suc k = stands.1 in
          omega (arith, same, at, le)

      width : has_place s ahead q.atom ≡ true
      width = by_atom q.atom refl
        where
          by_atom : (a : Atom) → q.atom ≡ a → has_place s ahead a ≡ true
          by_atom (Stateless a) is =
              let p : count is_stateless (map atom_of done) < count is_stateless (map atom_of (done ++ q ∷ rest)) = fewer is_stateless done q rest (ap is_stateless is) in
              let n : count is_stateless (map atom_of (at_stage qs (suc k))) ≡ count is_stateless (map atom_of (done ++ q ∷ rest)) = ap (λ (xs : List Staged). count is_stateless (map atom_of xs)) e in
              let m : count is_stateless (map atom_of (at_stage qs (suc k))) ≡ length (stage_at qs (suc k)).stateless =
              ap (count is_stateless) (sym (stage_atoms qs (suc k))) ∙ count_stateless (stage_at qs (suc k)).stateless (stage_at qs (suc k)).stateful in
              let w = (lawful.widths (suc k)).0 in
              lt-ltb (count is_stateless (map atom_of done)) s.stateless (omega (arith, p, n, m, w))
          by_atom (Stateful a) is =
              let p : count is_stateful (map atom_of done) < count is_stateful (map atom_of (done ++ q ∷ rest)) = fewer is_stateful done q rest (ap is_stateful is) in
              let n : count is_stateful (map atom_of (at_stage qs (suc k))) ≡ count is_stateful (map atom_of (done ++ q ∷ rest)) = ap (λ (xs : List Staged). count is_stateful (map atom_of xs)) e in
              let m : count is_stateful (map atom_of (at_stage qs (suc k))) ≡ length (stage_at qs (suc k)).stateful =
              ap (count is_stateful) (sym (stage_atoms qs (suc k))) ∙ count_stateful (stage_at qs (suc k)).stateless (stage_at qs (suc k)).stateful in
              let w = (lawful.widths (suc k)).1 in
              lt-ltb (count is_stateful (map atom_of done)) s.stateful (omega (arith, p, n, m, w))

      its_arrays : are_new ahead.held (arrays_of q.atom) ≡ true
      its_arrays = new_from ahead.held (arrays_of q.atom) (λ x i j. by_case x i (append_in (flat_map stage_arrays before) (flat_map arrays_of (map atom_of done)) x j))
          (distinct_in (λ (r : Staged). arrays_of r.atom) qs q stands.0 lawful.arrays_once)
        where
          by_case : (x : ℕ) → IsIn x (arrays_of q.atom) → IsIn x (flat_map stage_arrays before) ⊎ IsIn x (flat_map arrays_of (map atom_of done)) → ⊥
          by_case x i (inl a) = let r = so.held x a in not_this (λ (y : Staged). arrays_of y.atom) lawful.arrays_once r.0 r.1 r.2 x i r.3
          by_case x i (inr b) = apart (λ (y : Staged). arrays_of y.atom) lawful.arrays_once x i (subst (λ (xs : List ℕ). IsIn x xs) (flat-map arrays_of atom_of done) b)

      its_reads : are_known fields ahead.known (reads_of q.atom) ≡ true
      its_reads = lawful.reads q stands.0 (is_known fields ahead.known) by_case
        where
          by_case : (c : ℕ) → Known fields qs (q.stage - 1) c → is_known fields ahead.known c ≡ true
          by_case c (inl low) = or_left (nat_lt c fields) (has c ahead.known) (lt-ltb c fields low)
          by_case c (inr (r, j, le, o)) =
              let at : q.stage ≡ suc k = stands.1 in
              let early : r.stage ≤ k = omega (arith, at, le) in
              or_right (nat_lt c fields) (has c ahead.known) (any_in (nat_eq c) ahead.known c (so.known r c j early o) (eq-eqb c c refl))

      its_writes : may_write One fields ahead.known ahead.written ahead.read (reads_of q.atom) (targets_of q.atom) ≡ true
      its_writes = and_from (list_all (λ c. not (is_known fields ahead.known c)) (targets_of q.atom)) (are_new ahead.written (targets_of q.atom))
          (all_from (λ c. not (is_known fields ahead.known c)) (targets_of q.atom) (λ c i. ap not (or_from (nat_lt c fields) (has c ahead.known) (le-ltb c fields (lawful.late q stands.0 c i))
          (not_has c ahead.known (λ j. let r = so.written c j in not_this (λ (y : Staged). targets_of y.atom) lawful.targets_once r.0 r.1 r.2 c i r.3)))))
          (new_from ahead.written (targets_of q.atom) (λ x i j. apart (λ (y : Staged). targets_of y.atom) lawful.targets_once x i (subst (λ (xs : List ℕ). IsIn x xs) (flat-map targets_of atom_of done) j))
          (distinct_in (λ (r : Staged). targets_of r.atom) qs q stands.0 lawful.targets_once))

      one_holds : Every Holds (atom_rules s sizes before (record { before = map atom_of done; item = q.atom }))
      one_holds = let f : IsFit q.atom = lawful.fit q stands.0 in (width, (f.there, (f.multiplier, (f.narrow, (f.pattern, (its_arrays, (its_reads, (its_writes, tt))))))))

    atoms_hold : (k : ℕ) (before : List StageForm) → IsSoFar k before → (done rest : List Staged) → at_stage qs (suc k) ≡ done ++ rest
        → Every Holds (flat_map (atom_rules s sizes before) (standing_after (map atom_of done) (map atom_of rest)))
    atoms_hold k before so done [] e = tt
    atoms_hold k before so done (q ∷ rest) e =
        Every-append Holds (atom_rules s sizes before (record { before = map atom_of done; item = q.atom })) (flat_map (atom_rules s sizes before) (standing_after (map atom_of done ++ q.atom ∷ []) (map atom_of rest)))
        (one_holds k before so done q rest e)
        (subst (λ (b : List Atom). Every Holds (flat_map (atom_rules s sizes before) (standing_after b (map atom_of rest)))) (map_join atom_of done (q ∷ []))
        (atoms_hold k before so (done ++ q ∷ []) rest (e ∙ sym (append_assoc done (q ∷ []) rest))))

    stage_holds : (k : ℕ) (before : List StageForm) → IsSoFar k before → Every Holds (stage_rules s sizes (record { before = before; item = stage_at qs (suc k) }))
    stage_holds k before so =
        subst (λ (list : List Atom). Every Holds (flat_map (atom_rules s sizes before) (standing_after [] list))) (sym (stage_atoms qs (suc k))) (atoms_hold k before so [] (at_stage qs (suc k)) refl)

    stages_hold : (k n : ℕ) (before : List StageForm) → IsSoFar k before → Every Holds (flat_map (stage_rules s sizes) (standing_after before (stages_from qs k n)))
    stages_hold k zero before so = tt
    stages_hold k (suc n) before so =
        Every-append Holds (stage_rules s sizes (record { before = before; item = stage_at qs (suc k) })) (flat_map (stage_rules s sizes) (standing_after (before ++ stage_at qs (suc k) ∷ []) (stages_from qs (suc k) n)))
        (stage_holds k before so) (stages_hold (suc k) n (before ++ stage_at qs (suc k) ∷ []) (one_more k before so))

    -- no atom of the stages breaks a rule
    pub all_stages_hold : (n : ℕ) → Every Holds (flat_map (stage_rules s sizes) (standing (stages_from qs 0 n)))
    all_stages_hold n = stages_hold 0 n [] none_yet
