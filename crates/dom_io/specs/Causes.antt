-- When a fault may be answered: only where a count rose.
use Rattle.std.specs.Prelude.{◌≡◌, ℕ, ◌+◌, ◌-◌, ◌^◌, ◌≤◌, min, Result, OnOk, OnErr}

-- a count after one more, up to its type's end
abbrev pub next_number : ℕ → ℕ
next_number n = min (n + 1) (2 ^ 64 - 1)

-- the count rose, or stood at its type's end
abbrev pub Rose : ℕ → ℕ → Type 0
Rose before now = next_number before ≤ now

-- the count never falls; a fault comes only where it rose, and success leaves it
pub record HasCause {T E : Type 0} (before now : ℕ) (result : Result T E) : Type 0 where
  pub later : before ≤ now
  pub failed : OnErr result (Rose before now)
  pub kept : OnOk result (now ≡ before)
