-- White space, and the forms of numbers.
use Rattle.std.specs.Prelude.{ℕ, ◌+◌, ◌-◌, ◌*◌, Bool, true, false, ◌&&◌, ◌||◌, ◌==◌, nat_le, if◌then◌else◌, List, [], ◌∷◌, drop, fold}
use Rattle.std.specs.Char.{is_ascii_digit, is_ascii_hexdigit}
use Rattle.std.specs.List.{list_all}

-- white space: the bytes 9 to 13 and 32
abbrev pub is_space : ℕ → Bool
is_space b = b == 32 || (nat_le 9 b && nat_le b 13)

-- there is no byte
abbrev pub is_empty : List ℕ → Bool
is_empty [] = true
is_empty (b ∷ bs) = false

-- `0` (the byte 48), or a digit from 1 to 9 and then digits
abbrev pub is_decimal : List ℕ → Bool
is_decimal [] = false
is_decimal (b ∷ bs) = if b == 48 then is_empty bs else (is_ascii_digit b && list_all is_ascii_digit bs)

-- `x` or `X`
abbrev pub is_x : ℕ → Bool
is_x b = b == 120 || b == 88

-- `0x` or `0X`, and then one or more hexadecimal digits
abbrev pub is_hex : List ℕ → Bool
is_hex (z ∷ x ∷ d ∷ ds) = z == 48 && (is_x x && (is_ascii_hexdigit d && list_all is_ascii_hexdigit ds))
is_hex (z ∷ x ∷ []) = false
is_hex (z ∷ []) = false
is_hex [] = false

-- a number in either form
abbrev pub is_number : List ℕ → Bool
is_number bs = is_decimal bs || is_hex bs

-- the value of a digit: from 10 on by the letters `a` (the byte 97) or `A` (the byte 65) and the next
abbrev pub digit_of : ℕ → ℕ
digit_of b = if is_ascii_digit b then b - 48 else (if nat_le 97 b then b - 87 else b - 55)

-- the number that digits write in a base
abbrev pub based : ℕ → List ℕ → ℕ
based base bs = fold (λ n b. n * base + digit_of b) 0 bs

-- the second byte is `x` or `X`, as in a number of the second form
abbrev pub has_x : List ℕ → Bool
has_x (z ∷ x ∷ ds) = is_x x
has_x (z ∷ []) = false
has_x [] = false

-- the value of a number in either form
abbrev pub number_value : List ℕ → ℕ
number_value bs = if has_x bs then based 16 (drop 2 bs) else based 10 bs
