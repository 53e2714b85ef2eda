-- The FNV-1a hash of 32 bits, without its top bit.
use Rattle.std.specs.Prelude.{ℕ, ◌*◌, ◌%◌, ◌^◌, List, ◌∷◌, bit_xor, fold}
use Rattle.std.specs.Int.{to_le_bytes, w32}
use Rattle.std.specs.List.{flat_map}

-- one byte more: the exclusive or, and then the product with the prime
abbrev pub fnv_step : ℕ → ℕ → ℕ
fnv_step state byte = bit_xor state byte * 16777619 % 2 ^ 32

-- the bytes of words, the low byte of each first
abbrev pub bytes_of : List ℕ → List ℕ
bytes_of words = flat_map (to_le_bytes w32) words

-- the hash of the letter's number and the words' bytes
abbrev pub fnv_unit : ℕ → List ℕ → ℕ
fnv_unit letter args = fold fnv_step 2166136261 (letter ∷ bytes_of args) % 2 ^ 31
