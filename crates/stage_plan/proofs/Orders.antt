-- Dictionary order.
use Rattle.std.proofs.Common.{◌≡◌, ℕ, ◌≤◌, ◌<◌, ◌⊎◌, inl, inr, Bool, true, false, ◌&&◌, ◌||◌, ◌==◌, nat_lt, List, [], ◌∷◌, ◌++◌, length, refl, sym, ap, ◌∙◌, arith}
use Rattle.std.proofs.lemmas.Bool.{and_parts, and_from, eqb-true, eq-eqb, ltb-true, lt-ltb, cases_lt}
use Rattle.stage_plan.specs.Chains.{is_before}

abbrev Earlier : ℕ → List ℕ → ℕ → List ℕ → Type 0
Earlier x xs y ys = (x < y) ⊎ ((x ≡ y) × (is_before xs ys ≡ true))

parts : (x : ℕ) (xs : List ℕ) (y : ℕ) (ys : List ℕ) → is_before (x ∷ xs) (y ∷ ys) ≡ true → Earlier x xs y ys
parts x xs y ys e = by_case (nat_lt x y) refl e
  where
    by_case : (t : Bool) → nat_lt x y ≡ t → (t || (x == y && is_before xs ys)) ≡ true → Earlier x xs y ys
    by_case true f g = inl (ltb-true x y f)
    by_case false f g = let both = and_parts (x == y) (is_before xs ys) g in inr (eqb-true x y both.0, both.1)

whole : (x : ℕ) (xs : List ℕ) (y : ℕ) (ys : List ℕ) → Earlier x xs y ys → is_before (x ∷ xs) (y ∷ ys) ≡ true
whole x xs y ys (inl h) = rw (lt-ltb x y h) refl
whole x xs y ys (inr (e, h)) = by_case (nat_lt x y) (and_from (x == y) (is_before xs ys) (eq-eqb x y e) h)
  where
    by_case : (t : Bool) → (x == y && is_before xs ys) ≡ true → (t || (x == y && is_before xs ys)) ≡ true
    by_case true g = refl
    by_case false g = g

pub before_same : (xs : List ℕ) → is_before xs xs ≡ true
before_same [] = refl
before_same (x ∷ xs) = whole x xs x xs (inr (refl, before_same xs))

pub before_trans : (xs ys zs : List ℕ) → is_before xs ys ≡ true → is_before ys zs ≡ true → is_before xs zs ≡ true
before_trans [] ys zs e f = refl
before_trans (x ∷ xs) [] zs e f = absurd (cc)
before_trans (x ∷ xs) (y ∷ ys) [] e f = absurd (cc)
before_trans (x ∷ xs) (y ∷ ys) (z ∷ zs) e f = whole x xs z zs (both (before_trans xs ys zs) (parts x xs y ys e) (parts y ys z zs f))
  where
    both : (is_before xs ys ≡ true → is_before ys zs ≡ true → is_before xs zs ≡ true) → Earlier x xs y ys → Earlier y ys z zs → Earlier x xs z zs
    both more (inl a) (inl b) = inl (omega arith)
    both more (inl a) (inr (b, h)) = inl (omega arith)
    both more (inr (a, g)) (inl b) = inl (omega arith)
    both more (inr (a, g)) (inr (b, h)) = inr (a ∙ b, more g h)

pub before_total : (xs ys : List ℕ) → is_before xs ys ≡ false → is_before ys xs ≡ true
before_total [] ys e = absurd (cc)
before_total (x ∷ xs) [] e = refl
before_total (x ∷ xs) (y ∷ ys) e = by_order (before_total xs ys) (cases_lt x y) (cases_lt y x)
  where
    by_order : (is_before xs ys ≡ false → is_before ys xs ≡ true) → (x < y) ⊎ (y ≤ x) → (y < x) ⊎ (x ≤ y) → is_before (y ∷ ys) (x ∷ xs) ≡ true
    by_order more (inl a) b = absurd (let t = whole x xs y ys (inl a) in cc)
    by_order more (inr a) (inl b) = whole y ys x xs (inl b)
    by_order more (inr a) (inr b) =
        let same : x ≡ y = omega arith in
        by_rest more same (is_before xs ys) refl
      where
        by_rest : (is_before xs ys ≡ false → is_before ys xs ≡ true) → x ≡ y → (t : Bool) → is_before xs ys ≡ t → is_before (y ∷ ys) (x ∷ xs) ≡ true
        by_rest more same true f = absurd (let t = whole x xs y ys (inr (same, f)) in cc)
        by_rest more same false f = whole y ys x xs (inr (sym same, more f))

-- the same end after lists of one length keeps the order
pub before_end : (xs ys end : List ℕ) → length xs ≡ length ys → is_before xs ys ≡ true → is_before (xs ++ end) (ys ++ end) ≡ true
before_end [] [] end l e = before_same end
before_end [] (y ∷ ys) end l e = absurd (omega arith)
before_end (x ∷ xs) [] end l e = absurd (cc)
before_end (x ∷ xs) (y ∷ ys) end l e = whole x (xs ++ end) y (ys ++ end) (more (before_end xs ys end (omega arith)) (parts x xs y ys e))
  where
    more : (is_before xs ys ≡ true → is_before (xs ++ end) (ys ++ end) ≡ true) → Earlier x xs y ys → Earlier x (xs ++ end) y (ys ++ end)
    more rest (inl h) = inl h
    more rest (inr (h, g)) = inr (h, rest g)

-- two lists of which each is before the other are one
pub before_both : (xs ys : List ℕ) → is_before xs ys ≡ true → is_before ys xs ≡ true → xs ≡ ys
before_both [] [] e f = refl
before_both [] (y ∷ ys) e f = absurd (cc)
before_both (x ∷ xs) [] e f = absurd (cc)
before_both (x ∷ xs) (y ∷ ys) e f = both (before_both xs ys) (parts x xs y ys e) (parts y ys x xs f)
  where
    both : (is_before xs ys ≡ true → is_before ys xs ≡ true → xs ≡ ys) → Earlier x xs y ys → Earlier y ys x xs → x ∷ xs ≡ y ∷ ys
    both rest (inl a) (inl b) = absurd (omega arith)
    both rest (inl a) (inr (b, h)) = absurd (omega arith)
    both rest (inr (a, g)) (inl b) = absurd (omega arith)
    both rest (inr (a, g)) (inr (b, h)) = ap (λ z. z ∷ xs) a ∙ ap (λ l. y ∷ l) (rest g h)
