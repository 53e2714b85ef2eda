-- The order in which values are taken.
use Rattle.std.proofs.Common.{◌≡◌, ℕ, zero, suc, ◌+◌, ◌<◌, ◌≤◌, ◌⊎◌, inl, inr, Bool, true, false, ◌&&◌, nat_eq, nat_le, nat_lt, length-append, List, [], ◌∷◌, ◌++◌, length, filter, flat_map, refl, sym, ap, ◌∙◌, subst, arith, if◌then◌else◌}
use Rattle.std.proofs.lemmas.Bool.{cases_eq, cases_lt, cases_Bool, eq-eqb, eqb-true, ne_eqb, le-leb, lt-leb, lt-ltb, le-ltb}
use Rattle.std.proofs.lemmas.List.Elements.{filter-append}
use Rattle.std.specs.List.{AllByRecursion as Every, range_with_len}
use Rattle.container_plan.specs.Facts.{IsIn}
use Rattle.container_plan.specs.Spans.{order}
use Rattle.container_plan.proofs.Every.{Every-append, Every-weaker}
use Rattle.container_plan.proofs.Count.{AreInOrder}

pub in_left : {X : Type 0} (x : X) (xs ys : List X) → IsIn x xs → IsIn x (xs ++ ys)
in_left x [] ys i = absurd i
in_left x (y ∷ xs) ys (inl is) = inl is
in_left x (y ∷ xs) ys (inr i) = inr (in_left x xs ys i)

pub in_right : {X : Type 0} (x : X) (xs ys : List X) → IsIn x ys → IsIn x (xs ++ ys)
in_right x [] ys i = i
in_right x (y ∷ xs) ys i = inr (in_right x xs ys i)

module _ (made : ℕ → ℕ) where
  abbrev pub at : ℕ → List ℕ → List ℕ
  at k numbers = filter (λ v. nat_eq (made v) k) numbers

  abbrev pub from : List ℕ → ℕ → ℕ → List ℕ
  from numbers k n = flat_map (λ k. at k numbers) (range_with_len k n)

  lower : (a b : ℕ) (vs : List ℕ) → a ≤ b → AreInOrder made b vs → AreInOrder made a vs
  lower a b [] h p = tt
  lower a b (v ∷ vs) h p = (omega (arith, p.0), p.1)

  joined : (k : ℕ) (numbers rest : List ℕ) → AreInOrder made k rest → AreInOrder made k (at k numbers ++ rest)
  joined k [] rest p = p
  joined k (v ∷ numbers) rest p = by_case (nat_eq (made v) k) refl (joined k numbers rest p)
    where
      by_case : (b : Bool) → nat_eq (made v) k ≡ b → AreInOrder made k (at k numbers ++ rest) → AreInOrder made k ((if b then v ∷ at k numbers else at k numbers) ++ rest)
      by_case true e q = let is : made v ≡ k = eqb-true (made v) k e in (omega arith, subst (λ b. AreInOrder made b (at k numbers ++ rest)) (sym is) q)
      by_case false e q = q

  sorted_from : (numbers : List ℕ) (k n : ℕ) → AreInOrder made k (from numbers k n)
  sorted_from numbers k zero = tt
  sorted_from numbers k (suc n) = joined k numbers (from numbers (k + 1) n) (lower k (k + 1) (from numbers (k + 1) n) (omega arith) (sorted_from numbers (k + 1) n))

  pub order_sorted : (numbers : List ℕ) (n : ℕ) → AreInOrder made 0 (order made numbers n)
  order_sorted numbers n = sorted_from numbers 0 n

  at_stage : (k : ℕ) (numbers : List ℕ) → Every (λ v. made v ≡ k) (at k numbers)
  at_stage k [] = tt
  at_stage k (v ∷ numbers) = by_case (nat_eq (made v) k) refl (at_stage k numbers)
    where
      by_case : (b : Bool) → nat_eq (made v) k ≡ b → Every (λ v. made v ≡ k) (at k numbers) → Every (λ v. made v ≡ k) (if b then v ∷ at k numbers else at k numbers)
      by_case true e q = (eqb-true (made v) k e, q)
      by_case false e q = q

  early_from : (numbers : List ℕ) (k n : ℕ) → Every (λ v. made v < k + n) (from numbers k n)
  early_from numbers k zero = tt
  early_from numbers k (suc n) = Every-append _ (at k numbers) (from numbers (k + 1) n)
      (Every-weaker (λ v. made v ≡ k) (λ v. made v < k + suc n) (λ v h. omega (arith, h)) (at k numbers) (at_stage k numbers))
      (Every-weaker (λ v. made v < (k + 1) + n) (λ v. made v < k + suc n) (λ v h. omega (arith, h)) (from numbers (k + 1) n) (early_from numbers (k + 1) n))

  in_at : (v : ℕ) (numbers : List ℕ) → IsIn v numbers → IsIn v (at (made v) numbers)
  in_at v [] i = absurd i
  in_at v (u ∷ numbers) i = by_case (nat_eq (made u) (made v)) refl i (in_at v numbers)
    where
      by_case : (b : Bool) → nat_eq (made u) (made v) ≡ b → IsIn v (u ∷ numbers) → (IsIn v numbers → IsIn v (at (made v) numbers)) → IsIn v (if b then u ∷ at (made v) numbers else at (made v) numbers)
      by_case true e (inl is) rest = inl is
      by_case true e (inr j) rest = inr (rest j)
      by_case false e (inl is) rest = absurd (let h : nat_eq (made u) (made v) ≡ true = eq-eqb (made u) (made v) (ap made (sym is)) in cc)
      by_case false e (inr j) rest = rest j

  in_from : (v : ℕ) (numbers : List ℕ) (k n : ℕ) → IsIn v numbers → k ≤ made v → made v < k + n → IsIn v (from numbers k n)
  in_from v numbers k zero i lo hi = absurd (omega arith)
  in_from v numbers k (suc n) i lo hi = elim (cases_eq (made v) k) [
    | inl is ↦ in_left v (at k numbers) (from numbers (k + 1) n) (subst (λ j. IsIn v (at j numbers)) is (in_at v numbers i))
    | inr ne ↦ in_right v (at k numbers) (from numbers (k + 1) n) (in_from v numbers (k + 1) n i (omega arith) (omega arith))
  ]

  -- all numbers that are made before stage n are taken
  pub in_order : (v : ℕ) (numbers : List ℕ) (n : ℕ) → IsIn v numbers → made v < n → IsIn v (order made numbers n)
  in_order v numbers n i h = in_from v numbers 0 n i (omega arith) (omega arith)

  pub order_early : (numbers : List ℕ) (n : ℕ) → Every (λ v. made v < n) (order made numbers n)
  order_early numbers n = Every-weaker (λ v. made v < 0 + n) (λ v. made v < n) (λ v h. omega (arith, h)) (order made numbers n) (early_from numbers 0 n)

module _ {X : Type 0} (p : X → Bool) (x : X) (xs : List X) where
  filter_yes : p x ≡ true → length (filter p (x ∷ xs)) ≡ suc (length (filter p xs))
  filter_yes e = rw e refl

  filter_no : p x ≡ false → length (filter p (x ∷ xs)) ≡ length (filter p xs)
  filter_no e = rw e refl

-- each candidate that is made before a bound is taken once
module _ (made : ℕ → ℕ) (p : ℕ → Bool) where
  abbrev between : ℕ → ℕ → ℕ → Bool
  between a b v = (nat_le a (made v) && nat_lt (made v) b) && p v

  -- what one candidate adds
  abbrev IsSplit : ℕ → ℕ → ℕ → Type 0
  IsSplit k b v = ((nat_eq (made v) k ≡ false) × (between (suc k) b v ≡ between k b v)) ⊎ ((nat_eq (made v) k ≡ true) × (between (suc k) b v ≡ false) × (between k b v ≡ p v))

  is_split : (k b v : ℕ) → k < b → IsSplit k b v
  is_split k b v h = elim (cases_eq (made v) k) [
    | inl e ↦
        let low : nat_le k (made v) ≡ true = le-leb k (made v) (omega arith) in
        let high : nat_lt (made v) b ≡ true = lt-ltb (made v) b (omega arith) in
        let not_low : nat_le (suc k) (made v) ≡ false = lt-leb (suc k) (made v) (omega arith) in
        inr (eq-eqb (made v) k e, ap (λ z. (z && nat_lt (made v) b) && p v) not_low, ap (λ z. (z && nat_lt (made v) b) && p v) low ∙ ap (λ z. z && p v) high)
    | inr ne ↦ inl (
      ne_eqb (made v) k ne,
      elim (cases_lt (made v) k) [
        | inl less ↦ ap (λ z. (z && nat_lt (made v) b) && p v) (lt-leb (suc k) (made v) (omega arith) ∙ sym (lt-leb k (made v) less))
        | inr more ↦ ap (λ z. (z && nat_lt (made v) b) && p v) (le-leb (suc k) (made v) (omega arith) ∙ sym (le-leb k (made v) more))
      ],
    )
  ]

  count_split : (k b : ℕ) (numbers : List ℕ) → k < b → length (filter p (at made k numbers)) + length (filter (between (suc k) b) numbers) ≡ length (filter (between k b) numbers)
  count_split k b [] h = refl
  count_split k b (v ∷ numbers) h =
      let rest : length (filter p (at made k numbers)) + length (filter (between (suc k) b) numbers) ≡ length (filter (between k b) numbers) = count_split k b numbers h in
      elim (is_split k b v h) [
        | inl s ↦
            let a : length (filter p (at made k (v ∷ numbers))) ≡ length (filter p (at made k numbers)) = ap (λ zs. length (filter p zs)) (choose_no' (nat_eq (made v) k) (v ∷ at made k numbers) (at made k numbers) s.0) in
            elim (cases_Bool (between k b v)) [
              | inl y ↦ omega (arith, rest, a, filter_yes (between k b) v numbers y, filter_yes (between (suc k) b) v numbers (s.1 ∙ y))
              | inr n ↦ omega (arith, rest, a, filter_no (between k b) v numbers n, filter_no (between (suc k) b) v numbers (s.1 ∙ n))
            ]
        | inr s ↦
            let a : length (filter p (at made k (v ∷ numbers))) ≡ length (filter p (v ∷ at made k numbers)) = ap (λ zs. length (filter p zs)) (choose_yes' (nat_eq (made v) k) (v ∷ at made k numbers) (at made k numbers) s.0) in
            let b' : length (filter (between (suc k) b) (v ∷ numbers)) ≡ length (filter (between (suc k) b) numbers) = filter_no (between (suc k) b) v numbers s.1 in
            elim (cases_Bool (p v)) [
              | inl y ↦ omega (arith, rest, a, b', filter_yes p v (at made k numbers) y, filter_yes (between k b) v numbers (s.2 ∙ y))
              | inr n ↦ omega (arith, rest, a, b', filter_no p v (at made k numbers) n, filter_no (between k b) v numbers (s.2 ∙ n))
            ]
      ]
    where
      choose_yes' : (c : Bool) (x y : List ℕ) → c ≡ true → (if c then x else y) ≡ x
      choose_yes' c x y e = rw e refl

      choose_no' : (c : Bool) (x y : List ℕ) → c ≡ false → (if c then x else y) ≡ y
      choose_no' c x y e = rw e refl

  count_none : (k b : ℕ) (numbers : List ℕ) → b ≤ k → length (filter (between k b) numbers) ≡ 0
  count_none k b [] h = refl
  count_none k b (v ∷ numbers) h = filter_no (between k b) v numbers (out (cases_lt (made v) k)) ∙ count_none k b numbers h
    where
      out : (made v < k) ⊎ (k ≤ made v) → between k b v ≡ false
      out (inl less) = ap (λ z. (z && nat_lt (made v) b) && p v) (lt-leb k (made v) less)
      out (inr more) = ap (λ z. (nat_le k (made v) && z) && p v) (le-ltb (made v) b (omega arith)) ∙ ap (λ z. z && p v) (never (nat_le k (made v)))
        where
          never : (c : Bool) → (c && false) ≡ false
          never true = refl
          never false = refl

  count_from : (k n : ℕ) (numbers : List ℕ) → length (filter p (from made numbers k n)) ≡ length (filter (between k (k + n)) numbers)
  count_from k zero numbers = sym (count_none k (k + 0) numbers (omega arith))
  count_from k (suc n) numbers =
      let more : k + 1 ≡ suc k = omega arith in
      let end : (k + 1) + n ≡ k + suc n = omega arith in
      let rest : length (filter p (from made numbers (k + 1) n)) ≡ length (filter (between (suc k) (k + suc n)) numbers) =
      count_from (k + 1) n numbers ∙ ap (λ z. length (filter (between z ((k + 1) + n)) numbers)) more ∙ ap (λ z. length (filter (between (suc k) z) numbers)) end in
      let both : length (filter p (at made k numbers ++ from made numbers (k + 1) n)) ≡ length (filter p (at made k numbers)) + length (filter p (from made numbers (k + 1) n)) =
      ap (λ (zs : List ℕ). length zs) (filter-append p (at made k numbers) (from made numbers (k + 1) n)) ∙ length-append (filter p (at made k numbers)) (filter p (from made numbers (k + 1) n)) in
      omega (arith, both, rest, count_split k (k + suc n) numbers (omega arith))

  -- how many pass a test, counted in the order and among all candidates
  pub count_order : (n : ℕ) (numbers : List ℕ) → length (filter p (order made numbers (suc n))) ≡ length (filter (λ v. nat_le (made v) n && p v) numbers)
  count_order n numbers = count_from 0 (suc n) numbers ∙ same numbers
    where
      test : (v : ℕ) → between 0 (0 + suc n) v ≡ (nat_le (made v) n && p v)
      test v = elim (cases_lt n (made v)) [
        | inl less ↦ ap (λ z. (nat_le 0 (made v) && z) && p v) (le-ltb (made v) (0 + suc n) (omega arith)) ∙ ap (λ z. z && p v) (never (nat_le 0 (made v))) ∙ sym (ap (λ z. z && p v) (lt-leb (made v) n less))
        | inr more ↦ ap (λ z. (nat_le 0 (made v) && z) && p v) (lt-ltb (made v) (0 + suc n) (omega arith)) ∙ ap (λ z. (z && true) && p v) (le-leb 0 (made v) (omega arith)) ∙ sym (ap (λ z. z && p v) (le-leb (made v) n more))
      ]
        where
          never : (c : Bool) → (c && false) ≡ false
          never true = refl
          never false = refl

      same : (vs : List ℕ) → length (filter (between 0 (0 + suc n)) vs) ≡ length (filter (λ v. nat_le (made v) n && p v) vs)
      same [] = refl
      same (v ∷ vs) = elim (cases_Bool (nat_le (made v) n && p v)) [
        | inl y ↦ filter_yes (between 0 (0 + suc n)) v vs (test v ∙ y) ∙ ap (λ m. suc m) (same vs) ∙ sym (filter_yes (λ v. nat_le (made v) n && p v) v vs y)
        | inr z ↦ filter_no (between 0 (0 + suc n)) v vs (test v ∙ z) ∙ same vs ∙ sym (filter_no (λ v. nat_le (made v) n && p v) v vs z)
      ]
