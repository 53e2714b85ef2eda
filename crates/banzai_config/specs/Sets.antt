-- A set of numbers below a size, as the list of them in the order in which they were added.
use Rattle.std.specs.Prelude.{◌≡◌, ℕ, Bool, true, false, List, slice_index_or}
use Rattle.banzai_config.specs.Legal.{has}

pub record Numbers : Type 0 where
  pub size : ℕ
  pub numbers : List ℕ

-- the marks are those of the numbers in the list
abbrev pub AreMarks : List Bool → List ℕ → Type 0
AreMarks marks numbers = (c : ℕ) → slice_index_or marks c false ≡ has c numbers

-- what is marked still was marked before, and is none of these numbers
abbrev pub AreUnmarked : List Bool → List Bool → List ℕ → Type 0
AreUnmarked old new numbers = (c : ℕ) → slice_index_or new c false ≡ true → (slice_index_or old c false ≡ true) × (has c numbers ≡ false)
