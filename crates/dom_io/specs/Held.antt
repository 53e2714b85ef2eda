-- What a sink holds, where it tells.
use Rattle.std.specs.Prelude.{◌≡◌, Bool, false, List, [], ◌∷◌, ℕ, ◌++◌, ◌==◌, length, take, ◌≤◌, nat_le, min, if◌then◌else◌, Option, None, Some, option_map, Result, MatchResult}

-- what is held after these bytes too
abbrev pub appended : Option (List ℕ) → List ℕ → Option (List ℕ)
appended held bytes = option_map (λ h. h ++ bytes) held

-- some first ones of the bytes were put
abbrev pub IsPart : Option (List ℕ) → Option (List ℕ) → List ℕ → Type 0
IsPart before after bytes = (n : ℕ) × (n ≤ length bytes) × (after ≡ appended before (take n bytes))

-- all of the bytes were put, or some first ones where that failed
abbrev pub Puts : {E : Type 0} → Option (List ℕ) → Option (List ℕ) → List ℕ → Result (Unit {0}) E → Type 0
Puts before after bytes result =
    MatchResult result (λ _. after ≡ appended before bytes) (λ _. IsPart before after bytes)

-- how many bytes the put of a number is to take before it fails, by the first pair of that number
abbrev pub planned_bytes : List (ℕ × ℕ) → ℕ → Option ℕ
planned_bytes [] number = None
planned_bytes (pair ∷ failing) number = if pair.0 == number then Some pair.1 else planned_bytes failing number

-- how many of so many bytes are taken, with this room left
abbrev pub taken_bytes : Option ℕ → ℕ → ℕ → ℕ
taken_bytes None left bytes = min bytes left
taken_bytes (Some n) left bytes = min (min bytes left) n

-- a put succeeds where it is not to fail and all of its bytes fit
abbrev pub puts_all : Option ℕ → ℕ → ℕ → Bool
puts_all None left bytes = nat_le bytes left
puts_all (Some n) left bytes = false
