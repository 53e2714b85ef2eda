-- What holds wherever names are looked up.
use Rattle.std.specs.Prelude.{ℕ, ◌≤◌, ◌≡◌, Bool, true, nat_lt, List, length}
use Rattle.std.specs.List.{list_all}
use Rattle.dom_words.specs.declared.array.Array.{Array}
use Rattle.dom_words.specs.State.{are_lengths, state_words}
use Rattle.dom_checks.specs.declared.meant.Meant.{Meant}
use Rattle.dom_checks.specs.declared.meant.Meant.TheVariants as meaning

-- the number of an array is below n
abbrev pub is_numbered : ℕ → Meant → Bool
is_numbered n (meaning.Define w) = true
is_numbered n (meaning.Scalar k) = nat_lt k n
is_numbered n (meaning.Array k) = nat_lt k n
is_numbered n meaning.Parameter = true

-- each declared name has one meaning, its array is there, and the limits are kept
pub record IsKept (fields : List (List ℕ)) (names : List (List ℕ)) (meanings : List Meant) (arrays : List Array) (words : ℕ) : Type 0 where
  pub paired : length meanings ≡ length names
  pub numbered : list_all (is_numbered (length arrays)) meanings ≡ true
  pub few_fields : length fields ≤ 64
  pub few_arrays : length arrays ≤ 32
  pub lengths : are_lengths arrays ≡ true
  pub summed : words ≡ state_words arrays
  pub few_words : words ≤ 1048576
