-- What each operator gives on words of 32 bits.
use Rattle.std.specs.Prelude.{ℕ, ◌+◌, ◌-◌, ◌*◌, ◌%◌, ◌^◌, ℤ, Bool, not, ◌&&◌, ◌||◌, ◌==◌, if◌then◌else◌, bit_and, bit_or, bit_xor, int_div, int_rem, int_lt}
use Rattle.std.specs.Int.{w32, cast_unsigned, bit_not, int_shr}
use Rattle.dom_words.specs.Number.{signed_of}
use Rattle.dom_words.specs.declared.operators.BinOp.{BinOp}
use Rattle.dom_words.specs.declared.operators.BinOp.TheVariants.{Mul, Div, Rem, Add, Sub, Shl, Shr, Lt, Le, Gt, Ge, Eq, Ne, BitAnd, BitXor, BitOr, And, Or}
use Rattle.dom_words.specs.declared.operators.UnOp.{UnOp}
use Rattle.dom_words.specs.declared.operators.UnOp.TheVariants.{Neg, Inv, Not}

-- the word of a number from -2^31 to 2^32-1
abbrev pub word_of : ℤ → ℕ
word_of z = cast_unsigned w32 z

-- 1 where it holds, else 0
abbrev pub truth_of : Bool → ℕ
truth_of b = if b then 1 else 0

-- a word is true where it is not 0
abbrev pub is_true : ℕ → Bool
is_true a = not (a == 0)

-- the signed order
abbrev pub is_less : ℕ → ℕ → Bool
is_less a b = int_lt (signed_of a) (signed_of b)

-- sums, differences, products and negations are modulo 2^32; quotients are signed and rounded toward 0, and a zero divisor
-- gives 0; shifts are by the low five bits of the amount, and the one to the right keeps the sign
abbrev pub un_word : UnOp → ℕ → ℕ
un_word Neg a = (2 ^ 32 - a) % 2 ^ 32
un_word Inv a = bit_not w32 a
un_word Not a = truth_of (a == 0)

abbrev pub bin_word : BinOp → ℕ → ℕ → ℕ
bin_word Mul a b = a * b % 2 ^ 32
bin_word Div a b = if b == 0 then 0 else word_of (int_div (signed_of a) (signed_of b))
bin_word Rem a b = if b == 0 then 0 else word_of (int_rem (signed_of a) (signed_of b))
bin_word Add a b = (a + b) % 2 ^ 32
bin_word Sub a b = (a + (2 ^ 32 - b)) % 2 ^ 32
bin_word Shl a b = a * 2 ^ (b % 32) % 2 ^ 32
bin_word Shr a b = word_of (int_shr (signed_of a) (b % 32))
bin_word Lt a b = truth_of (is_less a b)
bin_word Le a b = truth_of (not (is_less b a))
bin_word Gt a b = truth_of (is_less b a)
bin_word Ge a b = truth_of (not (is_less a b))
bin_word Eq a b = truth_of (a == b)
bin_word Ne a b = truth_of (not (a == b))
bin_word BitAnd a b = bit_and a b
bin_word BitXor a b = bit_xor a b
bin_word BitOr a b = bit_or a b
bin_word And a b = truth_of (is_true a && is_true b)
bin_word Or a b = truth_of (is_true a || is_true b)

-- `c ? a : b`
abbrev pub chosen : ℕ → ℕ → ℕ → ℕ
chosen c a b = if is_true c then a else b

-- a word modulo a number; the modulus 0 is none
abbrev pub reduced : ℕ → ℕ → ℕ
reduced modulus word = if modulus == 0 then word else word % modulus
