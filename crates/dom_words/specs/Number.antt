-- Words of 32 bits, and the numbers that texts of decimal digits write.
use Rattle.std.specs.Prelude.{ℕ, ℤ, ◌+◌, ◌-◌, ◌*◌, ◌%◌, ◌^◌, Bool, ◌&&◌, nat_le, List, [], ◌∷◌, ◌==◌, Option, None, Some, if◌then◌else◌, length, fold}
use Rattle.std.specs.Int.{w32, cast_signed}
use Rattle.std.specs.Char.{is_ascii_digit}
use Rattle.std.specs.List.{list_all}

-- a word read in two's complement
abbrev pub signed_of : ℕ → ℤ
signed_of word = cast_signed w32 word

-- the number that digits write
abbrev pub digits_value : List ℕ → ℕ
digits_value text = fold (λ n byte. n * 10 + (byte - 48)) 0 text

-- one to ten digits
abbrev pub is_digits : List ℕ → Bool
is_digits text = nat_le 1 (length text) && nat_le (length text) 10 && list_all is_ascii_digit text

-- the number that one to ten digits write, up to `most`
abbrev pub number_up_to : ℕ → List ℕ → Option ℕ
number_up_to most text = if is_digits text && nat_le (digits_value text) most then Some (digits_value text) else None

-- a count: one to ten digits, up to 4294967295
abbrev pub count_of : List ℕ → Option ℕ
count_of text = number_up_to (2 ^ 32 - 1) text

-- the word of a number with a minus sign before it
abbrev pub negated : Option ℕ → Option ℕ
negated None = None
negated (Some n) = Some ((2 ^ 32 - n) % 2 ^ 32)

-- a word: a count, or `-` (the byte 45) and one to ten digits up to 2147483648
abbrev pub word_of_text : List ℕ → Option ℕ
word_of_text [] = None
word_of_text (byte ∷ rest) = if byte == 45 then negated (number_up_to (2 ^ 31) rest) else count_of (byte ∷ rest)
