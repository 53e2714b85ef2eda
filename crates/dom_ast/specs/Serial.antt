-- Where the words of a run stand.
use Rattle.std.specs.Prelude.{ℕ, ◌<◌, List, slice_get, IsSomeAnd}
use Rattle.dom_words.specs.declared.array.Array.{Array}

-- a word's place among declared arrays: the array is there, and the index is below its length
abbrev pub IsPlaceOf : List Array → ℕ → ℕ → Type 0
IsPlaceOf arrays array index = IsSomeAnd (slice_get arrays array) (λ declared. index < declared.length)
