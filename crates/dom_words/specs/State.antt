-- State: arrays of words.
use Rattle.std.specs.Prelude.{◌≡◌, ◌<◌, ◌^◌, ℕ, ◌%◌, Bool, ◌&&◌, nat_le, nat_lt, List, [], length, map, replicate, slice_index, slice_index_or, slice_set, sum}
use Rattle.std.specs.List.{list_all}
use Rattle.dom_words.specs.declared.array.Array.{Array}
use Rattle.dom_words.specs.declared.hash.HashName.{HashName}

-- what hash units answer: a word for a unit and its arguments
abbrev pub Hash : Type 0
Hash = HashName → List ℕ → ℕ

-- hash units answer words below 2^31
abbrev pub IsSmallHash : Hash → Type 0
IsSmallHash hash = (unit : HashName) (args : List ℕ) → hash unit args < 2 ^ 31

-- what becomes of a packet and of a state
pub record Outcome : Type 0 where
  pub packet : List ℕ
  pub arrays : List (List ℕ)

-- what is made of a packet and a state, by a hash
abbrev pub Meaning : Type 0
Meaning = Hash → List ℕ → List (List ℕ) → Outcome

-- what has to hold of a hash, a packet and a state
abbrev pub Premise : Type 1
Premise = Hash → List ℕ → List (List ℕ) → Type 0

-- two meanings agree wherever the premise holds
abbrev pub AgreeUnder : Premise → Meaning → Meaning → Type 0
AgreeUnder Holds f g = (hash : Hash) (packet : List ℕ) (state : List (List ℕ)) → Holds hash packet state → f hash packet state ≡ g hash packet state

-- the words of array a, from 0
abbrev pub array_of : List (List ℕ) → ℕ → List ℕ
array_of arrays a = slice_index_or arrays a []

-- the element that an index reaches among words
abbrev pub element_of : List ℕ → ℕ → ℕ
element_of words index = index % length words

-- the word of array a at an index
abbrev pub fetched : List (List ℕ) → ℕ → ℕ → ℕ
fetched arrays a index = slice_index (array_of arrays a) (element_of (array_of arrays a) index)

-- the arrays with another word in array a at an index
abbrev pub stored : List (List ℕ) → ℕ → ℕ → ℕ → List (List ℕ)
stored arrays a index word = slice_set arrays a (slice_set (array_of arrays a) (element_of (array_of arrays a) index) word)

-- the words that declared arrays start with: in each array all the same
abbrev pub started : List Array → List (List ℕ)
started arrays = map (λ array. replicate array.length array.init) arrays

-- these are words of the declared arrays
abbrev pub IsStateOf : List Array → List (List ℕ) → Type 0
IsStateOf arrays state = map length state ≡ map (λ array. array.length) arrays

-- an array has 1 to 1,048,576 words
abbrev pub is_length : ℕ → Bool
is_length n = nat_le 1 n && nat_le n 1048576

abbrev pub are_lengths : List Array → Bool
are_lengths arrays = list_all (λ array. is_length array.length) arrays

-- a number is a word of 32 bits
abbrev pub fits_word : ℕ → Bool
fits_word n = nat_lt n (2 ^ 32)

-- what each array starts with is a word
abbrev pub start_with_words : List Array → Bool
start_with_words arrays = list_all (λ array. fits_word array.init) arrays

-- the words of all arrays
abbrev pub state_words : List Array → ℕ
state_words arrays = sum (map (λ array. array.length) arrays)
