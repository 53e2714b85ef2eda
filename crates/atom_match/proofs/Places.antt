-- Places in a list of numbers.
use Rattle.std.proofs.Common.{◌≡◌, ℕ, suc, Bool, true, false, ◌||◌, nat_eq, List, [], ◌∷◌, Option, Some, None, length, refl, sym, ap, if◌then◌else◌}
use Rattle.std.proofs.lemmas.Bool.{eq-eqb, eqb-true}
use Rattle.codelets.specs.Lists.{has, place_if, place_in}

-- a number that is not there has the place behind the last
pub place_in-absent : (xs : List ℕ) (v : ℕ) → has xs v ≡ false → place_in xs v ≡ length xs
place_in-absent [] v e = refl
place_in-absent (x ∷ xs) v e = by_case (nat_eq x v) refl (nat_eq v x) (has xs v) refl e (place_in-absent xs v)
  where
    by_case : (c : Bool) → nat_eq x v ≡ c → (b d : Bool) → nat_eq v x ≡ b → (b || d) ≡ false → (d ≡ false → place_in xs v ≡ length xs) → (if c then 0 else suc (place_in xs v)) ≡ suc (length xs)
    by_case c k true d h f r = absurd (cc)
    by_case c k false true h f r = absurd (cc)
    by_case true k false false h f r = let same : nat_eq v x ≡ true = eq-eqb v x (sym (eqb-true x v k)) in absurd (cc)
    by_case false k false false h f r = ap suc (r refl)

-- the place of a number that is there, or the one behind the last
abbrev pub place_or : List ℕ → Option ℕ → ℕ
place_or xs None = length xs
place_or xs (Some k) = k

pub place_in-if : (xs : List ℕ) (v : ℕ) → place_or xs (place_if xs v) ≡ place_in xs v
place_in-if xs v = by_case (has xs v) refl
  where
    by_case : (b : Bool) → has xs v ≡ b → place_or xs (if b then Some (place_in xs v) else None) ≡ place_in xs v
    by_case true e = refl
    by_case false e = sym (place_in-absent xs v e)
