-- Walks, and reach.
use Rattle.std.specs.Prelude.{◌≡◌, ℕ, zero, suc, ◌<◌, Bool, true, ◌&&◌, ◌||◌, nat_eq, nat_lt, List, [], ◌∷◌}

module _ (leads : ℕ → ℕ → Bool) where
  -- from a through the statements of a list, each leading to the next, the last of them b; an empty list stays at a
  abbrev pub IsWalk : ℕ → List ℕ → ℕ → Type 0
  IsWalk a [] b = a ≡ b
  IsWalk a (c ∷ rest) b = (leads a c ≡ true) × IsWalk c rest b

  abbrev pub Reaches : ℕ → ℕ → Type 0
  Reaches a b = (rest : List ℕ) × IsWalk a rest b

  -- n: the number of statements
  pub record IsReach (n : ℕ) (reach : ℕ → ℕ → Bool) : Type 0 where
    pub walked : (a b : ℕ) → a < n → b < n → reach a b ≡ true → Reaches a b
    pub reached : (a b : ℕ) → a < n → b < n → Reaches a b → reach a b ≡ true

  -- after the statements below k have been taken as the middle of walks
  pub record IsPassed (n k : ℕ) (reach : ℕ → ℕ → Bool) : Type 0 where
    pub self : (a : ℕ) → a < n → reach a a ≡ true
    pub step : (a b : ℕ) → a < n → b < n → leads a b ≡ true → reach a b ≡ true
    pub through : (a c b : ℕ) → a < n → c < k → b < n → reach a c ≡ true → reach c b ≡ true → reach a b ≡ true
    pub walked : (a b : ℕ) → a < n → b < n → reach a b ≡ true → Reaches a b

  -- a walk leads from a to b, and what stands between the two on it is below k
  abbrev pub reaches_through : ℕ → ℕ → ℕ → Bool
  reaches_through zero a b = nat_eq a b || leads a b
  reaches_through (suc k) a b = reaches_through k a b || (reaches_through k a k && reaches_through k k b)

  -- a reaches b, where there are n statements; a number past the last reaches nothing
  abbrev pub reaches_among : ℕ → ℕ → ℕ → Bool
  reaches_among n a b = nat_lt a n && (nat_lt b n && reaches_through n a b)
