-- The places of the codelets that have numbers.
use Rattle.std.proofs.Common.{◌≡◌, ℕ, zero, suc, ◌+◌, ◌-◌, ◌<◌, ◌≤◌, Bool, true, false, nat_eq, List, [], ◌∷◌, length, get_or, take, refl, sym, ap, ◌∙◌, arith, inl, inr, ◌≢◌}
use Rattle.std.specs.Prelude.{◌||◌, ◌&&◌, not}
use Rattle.std.specs.List.{list_any, filter, range_with_len}
use Rattle.std.proofs.lemmas.Bool.{cases_lt, eq-eqb, ne_eqb}
use Rattle.std.proofs.lemmas.List.Folds.{list_any_more}
use Rattle.codelets.specs.Lists.{AreApart, IsIn, has, meet}
use Rattle.codelets.specs.Used.{AreOwners, AreUsed}
use Rattle.codelets.proofs.Lists.{has_in, in_has, in_none, none_in}
use Rattle.codelets.proofs.Onces.{skip_more}
use Rattle.codelets.proofs.Order.{every_at}
use Rattle.codelets.proofs.UsedNumbers.{used_use}

piece_at : (cs : List (List ℕ)) (k : ℕ) → k < length cs → IsIn (get_or cs k []) cs
piece_at [] k h = absurd (omega arith)
piece_at (c ∷ cs) zero h = inl refl
piece_at (c ∷ cs) (suc k) h = inr (piece_at cs k (omega arith))

-- two codelets at two places have no number in common
apart_at : (cs : List (List ℕ)) (j k : ℕ) → AreApart cs → j < k → k < length cs → meet (get_or cs j []) (get_or cs k []) ≡ false
apart_at [] j k p jk h = absurd (omega arith)
apart_at (c ∷ cs) zero zero p jk h = absurd (omega arith)
apart_at (c ∷ cs) (suc j) zero p jk h = absurd (omega arith)
apart_at (c ∷ cs) zero (suc k) p jk h = every_at (λ d. meet c d ≡ false) cs (get_or cs k []) p.0 (piece_at cs k (omega arith))
apart_at (c ∷ cs) (suc j) (suc k) p jk h = apart_at cs j k p.1 (omega arith) (omega arith)

-- one codelet more has its numbers
pub owners_more : (list : List (List ℕ)) (k : ℕ) (d old new : List ℕ) → k < length list → AreApart list → d ≡ get_or list k [] → ((a : ℕ) → has d a ≡ true → get_or new a 0 ≡ k)
    → ((a : ℕ) → has d a ≡ false → get_or new a 0 ≡ get_or old a 0) → ((j a : ℕ) → j < k → has (get_or list j []) a ≡ true → get_or old a 0 ≡ j)
    → (j a : ℕ) → j < k + 1 → has (get_or list j []) a ≡ true → get_or new a 0 ≡ j
owners_more list k d old new h apart is given kept before j a jk here = elim (cases_lt j k) [
  | inl less ↦ kept a (ap (λ (x : List ℕ). has x a) is ∙ none_in (has (get_or list k [])) (get_or list j []) a (apart_at list j k apart less h) (has_in (get_or list j []) a here)) ∙ before j a less here
  | inr le ↦ (let same : k ≡ j = omega arith in given a (ap (λ (x : List ℕ). has x a) is ∙ ap (λ (i : ℕ). has (get_or list i []) a) same ∙ here) ∙ same)
]

-- one number more is not at a place
pub least_more : (f : ℕ → ℕ) (numbers : List ℕ) (i k : ℕ) → i < length numbers → list_any (λ a. nat_eq (f a) k) (take i numbers) ≡ false → f (get_or numbers i 0) ≢ k
    → list_any (λ a. nat_eq (f a) k) (take (i + 1) numbers) ≡ false
least_more f numbers i k h none ne =
    list_any_more (λ a. nat_eq (f a) k) numbers i 0 h ∙ ap (λ (b : Bool). b || nat_eq (f (get_or numbers i 0)) k) none ∙ ne_eqb (f (get_or numbers i 0)) k ne

-- a codelet at a place that no used number has is not used
pub not_used : (fields : ℕ) (uses : ℕ → ℕ → Bool) (c used owners : List ℕ) (list : List (List ℕ)) (k : ℕ) → k < length list → AreUsed fields (λ v. list_any (uses v) c) used → AreOwners list owners
    → list_any (λ a. nat_eq (get_or owners a 0) k) used ≡ false
    → (not (meet c (get_or list k [])) && list_any (λ b. list_any (λ a. uses (fields + a) b) (get_or list k [])) c) ≡ false
not_used fields uses c used owners list k h are own none =
    let d : List ℕ = get_or list k [] in
    sym (used_use fields uses c d used are) ∙ ap (λ (b : Bool). b && not (meet c d)) (in_none (has used) d (λ a i. by_case a i (has used a) refl))
  where
    by_case : (a : ℕ) → IsIn a (get_or list k []) → (b : Bool) → has used a ≡ b → b ≡ false
    by_case a i false e = refl
    by_case a i true e =
        let other : nat_eq (get_or owners a 0) k ≡ false = none_in (λ x. nat_eq (get_or owners x 0) k) used a none (has_in used a e) in
        let this : nat_eq (get_or owners a 0) k ≡ true = eq-eqb (get_or owners a 0) k (own k a h (in_has (get_or list k []) a i)) in
        absurd (cc (other, this))

skip_by : (t : ℕ → Bool) (j n : ℕ) (xs : List ℕ) → xs ≡ filter t (range_with_len 0 j) → ((i : ℕ) → j ≤ i → i < j + n → t i ≡ false) → xs ≡ filter t (range_with_len 0 (j + n))
skip_by t j zero xs e none = let same : j ≡ j + 0 = omega arith in e ∙ ap (λ (m : ℕ). filter t (range_with_len 0 m)) same
skip_by t j (suc n) xs e none =
    let same : j + 1 + n ≡ j + suc n = omega arith in
    skip_by t (j + 1) n xs (skip_more t j xs e (none j (omega arith) (omega arith))) (λ i low high. none i (omega arith) (omega arith)) ∙ ap (λ (m : ℕ). filter t (range_with_len 0 m)) same

-- numbers that pass a test, up to a later number, where none between passes
pub skip_to : (t : ℕ → Bool) (j k : ℕ) (xs : List ℕ) → j ≤ k → xs ≡ filter t (range_with_len 0 j) → ((i : ℕ) → j ≤ i → i < k → t i ≡ false) → xs ≡ filter t (range_with_len 0 k)
skip_to t j k xs le e none =
    let same : j + (k - j) ≡ k = omega arith in
    skip_by t j (k - j) xs e (λ i low high. none i low (omega arith)) ∙ ap (λ (m : ℕ). filter t (range_with_len 0 m)) same
