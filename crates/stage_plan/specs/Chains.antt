-- Chains of codelets, each of which uses the one before it.
use Rattle.std.specs.Prelude.{◌≡◌, ℕ, ◌+◌, ◌<◌, Bool, true, false, ◌==◌, ◌&&◌, ◌||◌, nat_lt, List, [], ◌∷◌, ◌++◌, map, length, Some, slice_get, slice_index}
use Rattle.std.specs.List.{Contains}
use Rattle.codelets.specs.declared.codelet.Codelet.{Codelet}
use Rattle.codelets.specs.Lists.{max_of}

-- the least statement number of the codelet at a position
abbrev pub first_at : List Codelet → ℕ → ℕ
first_at cs u = slice_index (map (λ c. c.first) cs) u

-- the codelet at p uses the one at u
abbrev pub Uses : List Codelet → ℕ → ℕ → Type 0
Uses cs p u = (c : Codelet) × ((slice_get cs p ≡ Some c) × Contains c.uses u)

abbrev pub greatest_level : List Codelet → ℕ
greatest_level cs = max_of (map (λ c. c.level) cs)

-- positions of codelets: one, or a chain and the position of one more
pub data Chain : Type 0 where
  only : ℕ → Chain
  more : Chain → ℕ → Chain

abbrev pub end_of : Chain → ℕ
end_of (only p) = p
end_of (more w p) = p

-- each codelet of a chain uses the one before it
abbrev pub IsChain : List Codelet → Chain → Type 0
IsChain cs (only p) = p < length cs
IsChain cs (more w p) = IsChain cs w × Uses cs p (end_of w)

abbrev pub chain_length : Chain → ℕ
chain_length (only p) = 1
chain_length (more w p) = chain_length w + 1

-- the least statement numbers along a chain
abbrev pub numbers : List Codelet → Chain → List ℕ
numbers cs (only p) = first_at cs p ∷ []
numbers cs (more w p) = numbers cs w ++ first_at cs p ∷ []

-- whether xs is ys or stands before it in dictionary order
abbrev pub is_before : List ℕ → List ℕ → Bool
is_before [] ys = true
is_before (x ∷ xs) [] = false
is_before (x ∷ xs) (y ∷ ys) = nat_lt x y || (x == y && is_before xs ys)

-- the numbers that are first in dictionary order among those of the chains with as many codelets as the greatest level
pub record IsFirstChain (cs : List Codelet) (shown : List ℕ) : Type 0 where
  pub chain : Chain
  pub is_chain : IsChain cs chain
  pub longest : chain_length chain ≡ greatest_level cs
  pub spelled : numbers cs chain ≡ shown
  pub first : (other : Chain) → IsChain cs other → chain_length other ≡ greatest_level cs → is_before shown (numbers cs other) ≡ true
