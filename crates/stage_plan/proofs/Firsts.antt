-- The first of some numbers.
use Rattle.std.proofs.Common.{◌≡◌, ℕ, zero, suc, ◌+◌, ◌-◌, ◌≤◌, ◌<◌, Bool, true, false, if◌then◌else◌, Option, Some, None, refl, sym, ap, ◌∙◌, arith, ◌≢◌, ◌==◌, ◌⊎◌, inl, inr, IfSome}
use Rattle.std.proofs.lemmas.Bool.{ne_eqb, cases_lt}
use Rattle.stage_plan.specs.Schedule.{first_from}

pub first_passes : (p : ℕ → Bool) (at end : ℕ) → at < end → p at ≡ true → first_from p at (end - at) ≡ Some at
first_passes p at end h e = let n : end - at ≡ suc (end - (at + 1)) = omega arith in rw n (rw e refl)

pub first_fails : (p : ℕ → Bool) (at end : ℕ) → at < end → p at ≡ false → first_from p at (end - at) ≡ first_from p (at + 1) (end - (at + 1))
first_fails p at end h e = let n : end - at ≡ suc (end - (at + 1)) = omega arith in rw n (rw e refl)

pub first_none : (p : ℕ → Bool) (at end : ℕ) → end ≤ at → first_from p at (end - at) ≡ None
first_none p at end h = let n : end - at ≡ 0 = omega arith in rw n refl

pub ruleset firsts = (first_passes, first_fails, first_none)

pub eqb_false : (a b : ℕ) → a ≢ b → (a == b) ≡ false
eqb_false a b h = ne_eqb a b h

pub first_same : (p q : ℕ → Bool) (at n : ℕ) → ((s : ℕ) → at ≤ s → s < at + n → p s ≡ q s) → first_from p at n ≡ first_from q at n
first_same p q at zero h = refl
first_same p q at (suc n) h =
    let here : p at ≡ q at = h at (omega arith) (omega arith) in
    let more = first_same p q (at + 1) n (λ s a b. h s (omega arith) (omega arith)) in
    rw here (rw more refl)

-- what the first is
pub record IsFirst (p : ℕ → Bool) (at n s : ℕ) : Type 0 where
  pub low : at ≤ s
  pub high : s < at + n
  pub passes : p s ≡ true
  pub first : (t : ℕ) → at ≤ t → t < s → p t ≡ false

pub first_is : (p : ℕ → Bool) (at n s : ℕ) → first_from p at n ≡ Some s → IsFirst p at n s
first_is p at zero s e = absurd (cc)
first_is p at (suc n) s e = by_case (first_is p (at + 1) n s) (p at) refl e
  where
    by_case : (first_from p (at + 1) n ≡ Some s → IsFirst p (at + 1) n s) → (t : Bool) → p at ≡ t → (if t then Some at else first_from p (at + 1) n) ≡ Some s → IsFirst p at (suc n) s
    by_case more true f g =
        let same : at ≡ s = cc in
        record { low = omega arith; high = omega arith; passes = ap p (sym same) ∙ f; first = λ t a b. absurd (omega arith) }
    by_case more false f g =
        let m = more g in
        let low = m.low in let high = m.high in
        record { low = omega arith; high = omega arith; passes = m.passes; first = λ t a b. from m f t a b (cases_lt at t) }
      where
        from : IsFirst p (at + 1) n s → p at ≡ false → (t : ℕ) → at ≤ t → t < s → (at < t) ⊎ (t ≤ at) → p t ≡ false
        from m f t a b (inl h) = m.first t (omega arith) b
        from m f t a b (inr h) = let same : t ≡ at = omega arith in ap p same ∙ f

pub none_is : (p : ℕ → Bool) (at n : ℕ) → first_from p at n ≡ None → (s : ℕ) → at ≤ s → s < at + n → p s ≡ false
none_is p at zero e s a b = absurd (omega arith)
none_is p at (suc n) e s a b = by_case (λ f. none_is p (at + 1) n f s) (p at) refl e
  where
    by_case : (first_from p (at + 1) n ≡ None → at + 1 ≤ s → s < at + 1 + n → p s ≡ false) → (t : Bool) → p at ≡ t → (if t then Some at else first_from p (at + 1) n) ≡ None → p s ≡ false
    by_case more true f g = absurd (cc)
    by_case more false f g = from (cases_lt at s)
      where
        from : (at < s) ⊎ (s ≤ at) → p s ≡ false
        from (inl h) = more g (omega arith) (omega arith)
        from (inr h) = let same : s ≡ at = omega arith in ap p same ∙ f

pub some_within : (p : ℕ → Bool) (at n d : ℕ) (o : Option ℕ) → o ≡ first_from p at n → at + n ≤ d + 1 → IfSome o (λ s. s ≤ d)
some_within p at n d None e h = tt
some_within p at n d (Some s) e h = let f = first_is p at n s (sym e) in let high = f.high in omega arith

pub some_passes : (p : ℕ → Bool) (at n : ℕ) (o : Option ℕ) → o ≡ first_from p at n → IfSome o (λ s. p s ≡ true)
some_passes p at n None e = tt
some_passes p at n (Some s) e = (first_is p at n s (sym e)).passes
