-- The numbers that make used values, and the codelets that have numbers.
use Rattle.std.specs.Prelude.{◌≡◌, ℕ, ◌+◌, ◌<◌, Bool, true, ◌||◌, List, [], length, slice_index_or}
use Rattle.codelets.specs.Lists.{has}

-- the numbers are those of the values that pass a test, after so many fields
abbrev pub AreUsed : ℕ → (ℕ → Bool) → List ℕ → Type 0
AreUsed fields test numbers = (a : ℕ) → has numbers a ≡ test (fields + a)

-- the numbers of the values that pass a test have come to those before
abbrev pub Added : ℕ → (ℕ → Bool) → List ℕ → List ℕ → Type 0
Added fields test old new = (a : ℕ) → has new a ≡ (has old a || test (fields + a))

-- for each number of a codelet its place in a list of codelets
abbrev pub AreOwners : List (List ℕ) → List ℕ → Type 0
AreOwners list owners = (k a : ℕ) → k < length list → has (slice_index_or list k []) a ≡ true → slice_index_or owners a 0 ≡ k
