-- The fields keep their containers.
use Rattle.std.proofs.Common.{◌≡◌, ℕ, zero, suc, ◌+◌, ◌<◌, ◌≤◌, ◌≢◌, inl, inr, Bool, true, false, nat_eq, nat_le, List, [], ◌∷◌, ◌++◌, map, filter, fold, refl, sym, ap, ◌∙◌, subst, arith, if◌then◌else◌}
use Rattle.std.proofs.lemmas.Bool.{cases_eq, cases_lt, eq-eqb, eqb-true, le-leb, ne_eqb}
use Rattle.std.proofs.lemmas.List.Sums.{fold-append}
use Rattle.std.specs.List.{AllByRecursion as Every, range_with_len}
use Rattle.container_plan.specs.Facts.{IsIn}
use Rattle.container_plan.specs.Spans.{Taken, least_free, held, take_next, taken, order}
use Rattle.container_plan.proofs.Every.{Every-weaker}
use Rattle.container_plan.proofs.Least.{least_free_one}
use Rattle.container_plan.proofs.Greedy.{value_of}
use Rattle.container_plan.proofs.Made.{choose_yes, choose_no}
use Rattle.container_plan.proofs.Order.{at, from}

module _ (made last : ℕ → ℕ) (fields : ℕ) (entered : (v : ℕ) → v < fields → made v ≡ 0) (later : (v : ℕ) → fields ≤ v → 1 ≤ made v) where
  -- the fields below a have been taken, each has its own number, and nothing else has been
  record AreFirst (a : ℕ) (done : List Taken) : Type 0 where
    pub same : Every (λ (t : Taken). (t.container ≡ t.value) × (t.value < a) × (t.value < fields)) done
    pub all : (d : ℕ) → d < a → d < fields → IsIn d (map value_of done)

  held_first : (a : ℕ) (done : List Taken) → Every (λ (t : Taken). (t.container ≡ t.value) × (t.value < a) × (t.value < fields)) done → held made last 0 done ≡ map value_of done
  held_first a [] p = refl
  held_first a (t ∷ ts) p =
      let rest : held made last 0 ts ≡ map value_of ts = held_first a ts p.1 in
      let yes' : nat_le 0 (last t.value) ≡ true = le-leb 0 (last t.value) (omega arith) in
      ap (λ (z : List Taken). map (λ (u : Taken). u.container) z) (choose_yes (nat_le 0 (last t.value)) (t ∷ filter (λ (u : Taken). nat_le 0 (last u.value)) ts) (filter (λ (u : Taken). nat_le 0 (last u.value)) ts) yes')
      ∙ ap (λ (z : ℕ). z ∷ map (λ (u : Taken). u.container) (filter (λ (u : Taken). nat_le 0 (last u.value)) ts)) p.0.0
      ∙ ap (λ (z : List ℕ). t.value ∷ z) rest

  not_yet : (a : ℕ) (done : List Taken) → Every (λ (t : Taken). (t.container ≡ t.value) × (t.value < a) × (t.value < fields)) done → IsIn a (map value_of done) → ⊥
  not_yet a [] p i = i
  not_yet a (t ∷ ts) p (inl is) = omega (arith, p.0.1)
  not_yet a (t ∷ ts) p (inr i) = not_yet a ts p.1 i

  takes_own : (a : ℕ) (done : List Taken) → a < fields → AreFirst a done → least_free (held made last (made a) done) ≡ a
  takes_own a done h f =
      let is : held made last (made a) done ≡ map value_of done = ap (λ k. held made last k done) (entered a h) ∙ held_first a done f.same in
      ap least_free is ∙ least_free_one (map value_of done) a (λ d less. f.all d less (omega arith)) (not_yet a done f.same)

  first_next : (a : ℕ) (done : List Taken) → a < fields → AreFirst a done → AreFirst (a + 1) (take_next made last done a)
  first_next a done h f = record {
    same = ((takes_own a done h f, omega arith, h), Every-weaker (λ (t : Taken). (t.container ≡ t.value) × (t.value < a) × (t.value < fields)) (λ (t : Taken). (t.container ≡ t.value) × (t.value < a + 1) × (t.value < fields)) (λ t q. (q.0, omega (arith, q.1), q.2)) done f.same);
    all = λ d less low. elim (cases_eq d a) [ inl is ↦ inl is | inr ne ↦ inr (f.all d (omega arith) low) ];
  }

  first_skip : (a : ℕ) (done : List Taken) → fields ≤ a → AreFirst a done → AreFirst (a + 1) done
  first_skip a done h f = record {
    same = Every-weaker (λ (t : Taken). (t.container ≡ t.value) × (t.value < a) × (t.value < fields)) (λ (t : Taken). (t.container ≡ t.value) × (t.value < a + 1) × (t.value < fields)) (λ t q. (q.0, omega (arith, q.1), q.2)) done f.same;
    all = λ d less low. f.all d (omega arith) low;
  }

  first_all : (n a : ℕ) (done : List Taken) → AreFirst a done → AreFirst (a + n) (fold (take_next made last) done (at made 0 (range_with_len a n)))
  first_all zero a done f = subst (λ b. AreFirst b done) (omega arith) f
  first_all (suc n) a done f = elim (cases_lt a fields) [
    | inl h ↦
        let is : at made 0 (range_with_len a (suc n)) ≡ a ∷ at made 0 (range_with_len (a + 1) n) =
        choose_yes (nat_eq (made a) 0) (a ∷ at made 0 (range_with_len (a + 1) n)) (at made 0 (range_with_len (a + 1) n)) (eq-eqb (made a) 0 (entered a h)) in
        let rest : AreFirst ((a + 1) + n) (fold (take_next made last) (take_next made last done a) (at made 0 (range_with_len (a + 1) n))) = first_all n (a + 1) (take_next made last done a) (first_next a done h f) in
        let rest' : AreFirst (a + suc n) (fold (take_next made last) done (a ∷ at made 0 (range_with_len (a + 1) n))) =
        subst (λ b. AreFirst b (fold (take_next made last) (take_next made last done a) (at made 0 (range_with_len (a + 1) n)))) (omega arith) rest in
        subst (λ (vs : List ℕ). AreFirst (a + suc n) (fold (take_next made last) done vs)) (sym is) rest'
    | inr h ↦
        let ne : made a ≢ 0 = λ e. let g : 1 ≤ made a = later a h in omega arith in
        let is : at made 0 (range_with_len a (suc n)) ≡ at made 0 (range_with_len (a + 1) n) =
        choose_no (nat_eq (made a) 0) (a ∷ at made 0 (range_with_len (a + 1) n)) (at made 0 (range_with_len (a + 1) n)) (ne_eqb (made a) 0 ne) in
        let rest : AreFirst ((a + 1) + n) (fold (take_next made last) done (at made 0 (range_with_len (a + 1) n))) = first_all n (a + 1) done (first_skip a done h f) in
        let rest' : AreFirst (a + suc n) (fold (take_next made last) done (at made 0 (range_with_len (a + 1) n))) =
        subst (λ b. AreFirst b (fold (take_next made last) done (at made 0 (range_with_len (a + 1) n)))) (omega arith) rest in
        subst (λ (vs : List ℕ). AreFirst (a + suc n) (fold (take_next made last) done vs)) (sym is) rest'
  ]

  own_rest : (vs : List ℕ) (done : List Taken) → Every (λ v. fields ≤ v) vs → Every (λ (t : Taken). t.value < fields → t.container ≡ t.value) done
      → Every (λ (t : Taken). t.value < fields → t.container ≡ t.value) (fold (take_next made last) done vs)
  own_rest [] done p q = q
  own_rest (v ∷ vs) done p q = own_rest vs (take_next made last done v) p.1 (λ h. absurd (omega (arith, p.0)), q)

  above_at : (k : ℕ) (numbers : List ℕ) → 1 ≤ k → Every (λ v. fields ≤ v) (at made k numbers)
  above_at k [] h = tt
  above_at k (v ∷ numbers) h = by_case (nat_eq (made v) k) refl (above_at k numbers h)
    where
      by_case : (b : Bool) → nat_eq (made v) k ≡ b → Every (λ v. fields ≤ v) (at made k numbers) → Every (λ v. fields ≤ v) (if b then v ∷ at made k numbers else at made k numbers)
      by_case true e rest = (elim (cases_lt v fields) [ inl less ↦ absurd (let is : made v ≡ k = eqb-true (made v) k e in let z : made v ≡ 0 = entered v less in omega arith) | inr more ↦ more ], rest)
      by_case false e rest = rest

  above_from : (numbers : List ℕ) (k n : ℕ) → 1 ≤ k → Every (λ v. fields ≤ v) (from made numbers k n)
  above_from numbers k zero h = tt
  above_from numbers k (suc n) h = append (at made k numbers) (from made numbers (k + 1) n) (above_at k numbers h) (above_from numbers (k + 1) n (omega arith))
    where
      append : (xs ys : List ℕ) → Every (λ v. fields ≤ v) xs → Every (λ v. fields ≤ v) ys → Every (λ v. fields ≤ v) (xs ++ ys)
      append [] ys p q = q
      append (x ∷ xs) ys p q = (p.0, append xs ys p.1 q)

  pub fields_own : (n stages : ℕ) → fields ≤ n → Every (λ (t : Taken). t.value < fields → t.container ≡ t.value) (taken made last (order made (range_with_len 0 n) (suc stages)))
  fields_own n stages h =
      let first : List ℕ = at made 0 (range_with_len 0 n) in
      let rest : List ℕ = from made (range_with_len 0 n) (0 + 1) stages in
      let f : AreFirst (0 + n) (fold (take_next made last) [] first) = first_all n 0 [] (record { same = tt; all = λ d less low. absurd (omega arith) }) in
      let own : Every (λ (t : Taken). t.value < fields → t.container ≡ t.value) (fold (take_next made last) [] first) =
      Every-weaker (λ (t : Taken). (t.container ≡ t.value) × (t.value < 0 + n) × (t.value < fields)) (λ (t : Taken). t.value < fields → t.container ≡ t.value) (λ t q l. q.0) (fold (take_next made last) [] first) f.same in
      subst (λ (ts : List Taken). Every (λ (t : Taken). t.value < fields → t.container ≡ t.value) ts) (sym (fold-append (take_next made last) [] first rest))
      (own_rest rest (fold (take_next made last) [] first) (above_from (range_with_len 0 n) (0 + 1) stages (omega arith)) own)
