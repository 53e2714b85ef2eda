-- The first answer along numbers in order.
use Rattle.std.proofs.Common.{◌≡◌, ℕ, zero, suc, ◌+◌, ◌<◌, Bool, true, false, cond, List, [], ◌∷◌, length, take, get_or, slice_get, find, Option, Some, None, refl, sym, ap, ◌∙◌, arith}
use Rattle.std.specs.List.{range_with_len}
use Rattle.codelets.specs.Lists.{first_some, option_or}

module _ {Y : Type 0} (f : ℕ → Option Y) where
  none_next : (from k : ℕ) → first_some f (range_with_len from k) ≡ None → f (from + k) ≡ None → first_some f (range_with_len from (suc k)) ≡ None
  none_next from zero h e = let at : from ≡ from + 0 = omega arith in ap (λ (o : Option Y). option_or o None) (ap f at ∙ e)
  none_next from (suc k) h e = by_case (none_next (from + 1) k) (f from) refl h
    where
      by_case : (first_some f (range_with_len (from + 1) k) ≡ None → f (from + 1 + k) ≡ None → first_some f (range_with_len (from + 1) (suc k)) ≡ None) → (o : Option Y) → f from ≡ o → option_or o (first_some f (range_with_len (from + 1) k)) ≡ None
          → option_or (f from) (first_some f (range_with_len (from + 1) (suc k))) ≡ None
      by_case more None o g =
          let at : from + 1 + k ≡ from + suc k = omega arith in
          ap (λ (x : Option Y). option_or x (first_some f (range_with_len (from + 1) (suc k)))) o ∙ more g (ap f at ∙ e)
      by_case more (Some y) o g = absurd (cc)

  -- one more number without an answer
  pub none_more : (from k : ℕ) → first_some f (range_with_len from k) ≡ None → f (from + k) ≡ None → first_some f (range_with_len from (k + 1)) ≡ None
  none_more from k h e = let one : k + 1 ≡ suc k = omega arith in ap (λ (n : ℕ). first_some f (range_with_len from n)) one ∙ none_next from k h e

  -- the first number with an answer
  pub first_is : (from k n : ℕ) (y : Y) → k < n → first_some f (range_with_len from k) ≡ None → f (from + k) ≡ Some y → first_some f (range_with_len from n) ≡ Some y
  first_is from k zero y l h e = absurd (omega arith)
  first_is from zero (suc n) y l h e = let at : from ≡ from + 0 = omega arith in ap (λ (o : Option Y). option_or o (first_some f (range_with_len (from + 1) n))) (ap f at ∙ e)
  first_is from (suc k) (suc n) y l h e = by_case (first_is (from + 1) k n y (omega arith)) (f from) refl h
    where
      by_case : (first_some f (range_with_len (from + 1) k) ≡ None → f (from + 1 + k) ≡ Some y → first_some f (range_with_len (from + 1) n) ≡ Some y) → (o : Option Y) → f from ≡ o → option_or o (first_some f (range_with_len (from + 1) k)) ≡ None → option_or (f from) (first_some f (range_with_len (from + 1) n)) ≡ Some y
      by_case more None o g =
          let at : from + 1 + k ≡ from + suc k = omega arith in
          ap (λ (x : Option Y). option_or x (first_some f (range_with_len (from + 1) n))) o ∙ more g (ap f at ∙ e)
      by_case more (Some z) o g = absurd (cc)

  -- no number has one
  pub none_at : (from n k : ℕ) → k < n → first_some f (range_with_len from n) ≡ None → f (from + k) ≡ None
  none_at from zero k l h = absurd (omega arith)
  none_at from (suc n) k l h = by_case (none_at (from + 1) n) (f from) refl h k l
    where
      by_case : ((k : ℕ) → k < n → first_some f (range_with_len (from + 1) n) ≡ None → f (from + 1 + k) ≡ None) → (o : Option Y) → f from ≡ o → option_or o (first_some f (range_with_len (from + 1) n)) ≡ None → (k : ℕ) → k < suc n → f (from + k) ≡ None
      by_case more None o g zero l = let at : from + 0 ≡ from = omega arith in ap f at ∙ o
      by_case more None o g (suc k) l = let at : from + suc k ≡ from + 1 + k = omega arith in ap f at ∙ more k (omega arith) g
      by_case more (Some y) o g k l = absurd (cc)

  pub all_none : (from n : ℕ) → ((k : ℕ) → k < n → f (from + k) ≡ None) → first_some f (range_with_len from n) ≡ None
  all_none from zero h = refl
  all_none from (suc n) h =
      let at : from ≡ from + 0 = omega arith in
      ap (λ (o : Option Y). option_or o (first_some f (range_with_len (from + 1) n))) (ap f at ∙ h 0 (omega arith))
      ∙ all_none (from + 1) n (λ k l. (let next : from + 1 + k ≡ from + suc k = omega arith in ap f next ∙ h (suc k) (omega arith)))

  -- the same for a number by its name
  pub none_with : (from k at : ℕ) → from + k ≡ at → first_some f (range_with_len from k) ≡ None → f at ≡ None → first_some f (range_with_len from (k + 1)) ≡ None
  none_with from k at e h g = none_more from k h (ap f e ∙ g)

  pub first_with : (from k n at : ℕ) (y : Y) → from + k ≡ at → k < n → first_some f (range_with_len from k) ≡ None → f at ≡ Some y → first_some f (range_with_len from n) ≡ Some y
  first_with from k n at y e l h g = first_is from k n y l h (ap f e ∙ g)

  pub none_of : (from n k at : ℕ) → from + k ≡ at → k < n → first_some f (range_with_len from n) ≡ None → f at ≡ None
  none_of from n k at e l h = sym (ap f e) ∙ none_at from n k l h

pub item_there : (us : List ℕ) (k : ℕ) → k < length us → slice_get us k ≡ Some (get_or us k 0)
item_there [] k h = absurd (omega arith)
item_there (u ∷ us) zero h = refl
item_there (u ∷ us) (suc k) h = item_there us k (omega arith)

-- The first of a list that passes a test.

module _ (p : ℕ → Bool) where
  found_next : (us : List ℕ) (k u : ℕ) → find p (take k us) ≡ None → slice_get us k ≡ Some u → p u ≡ false → find p (take (suc k) us) ≡ None
  found_next [] k u h at off = absurd (cc)
  found_next (v ∷ us) zero u h at off = let is : v ≡ u = cc in ap (λ (t : Bool). cond t (Some v) None) (ap p is ∙ off)
  found_next (v ∷ us) (suc k) u h at off = go (p v) refl h (λ g. found_next us k u g at off)
    where
      go : (t : Bool) → p v ≡ t → cond t (Some v) (find p (take k us)) ≡ None → (find p (take k us) ≡ None → find p (take (suc k) us) ≡ None) → cond (p v) (Some v) (find p (take (suc k) us)) ≡ None
      go true t g next = absurd (cc)
      go false t g next = ap (λ (t : Bool). cond t (Some v) (find p (take (suc k) us))) t ∙ next g

  pub found_more : (us : List ℕ) (k u : ℕ) → find p (take k us) ≡ None → slice_get us k ≡ Some u → p u ≡ false → find p (take (k + 1) us) ≡ None
  found_more us k u h at off = let one : k + 1 ≡ suc k = omega arith in ap (λ (n : ℕ). find p (take n us)) one ∙ found_next us k u h at off

  pub found_first : (us : List ℕ) (k u : ℕ) → find p (take k us) ≡ None → slice_get us k ≡ Some u → p u ≡ true → find p us ≡ Some u
  found_first [] k u h at yes_ = absurd (cc)
  found_first (v ∷ us) zero u h at yes_ = let is : v ≡ u = cc in ap (λ (t : Bool). cond t (Some v) (find p us)) (ap p is ∙ yes_) ∙ ap Some is
  found_first (v ∷ us) (suc k) u h at yes_ = go (p v) refl h (λ g. found_first us k u g at yes_)
    where
      go : (t : Bool) → p v ≡ t → cond t (Some v) (find p (take k us)) ≡ None → (find p (take k us) ≡ None → find p us ≡ Some u) → cond (p v) (Some v) (find p us) ≡ Some u
      go true t g next = absurd (cc)
      go false t g next = ap (λ (t : Bool). cond t (Some v) (find p us)) t ∙ next g
