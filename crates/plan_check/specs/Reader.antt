-- What the code reads at the front of a text.
use Rattle.std.specs.Prelude.{ℕ, Bool, true, false, not, ◌&&◌, ◌||◌, ◌==◌, nat_eq, nat_le, List, [], ◌∷◌, codes, drop, take, Option, Some, None, if◌then◌else◌}
use Rattle.std.specs.Char.{is_ascii_digit}
use Rattle.std.specs.List.{prefix_len}
use Rattle.dom_words.specs.Number.{count_of}

-- a number and what stands behind it
pub record NumberRest : Type 0 where
  pub value : ℕ
  pub rest : List ℕ

abbrev pub on : {A B : Type 0} → Option A → (A → Option B) → Option B
on None go = None
on (Some a) go = go a

-- what stands behind a front
abbrev pub after : List ℕ → List ℕ → Option (List ℕ)
after [] text = Some text
after (b ∷ front) [] = None
after (b ∷ front) (c ∷ text) = if nat_eq b c then after front text else None

abbrev pub is_nil : List ℕ → Bool
is_nil [] = true
is_nil (b ∷ bs) = false

-- digits without a leading zero
abbrev pub has_no_zero : List ℕ → Bool
has_no_zero [] = false
has_no_zero (d ∷ ds) = not (d == 48) || is_nil ds

abbrev pub numbered : Bool → Option ℕ → List ℕ → Option NumberRest
numbered false value rest = None
numbered true None rest = None
numbered true (Some n) rest = Some (record { value = n; rest = rest })

abbrev pub size_of_digits : List ℕ → ℕ
size_of_digits text = prefix_len is_ascii_digit text

abbrev pub digits_of : List ℕ → List ℕ
digits_of text = take (size_of_digits text) text

-- the number at the front of a text
abbrev pub number_from : List ℕ → Option NumberRest
number_from text = numbered (has_no_zero (digits_of text)) (count_of (digits_of text)) (drop (size_of_digits text) text)

-- the line feed behind a stage from 1 to the depth
abbrev pub line_end : ℕ → NumberRest → Option NumberRest
line_end depth n = if nat_le 1 n.value && nat_le n.value depth then on (after (10 ∷ []) n.rest) (λ rest. Some (record { value = n.value; rest = rest })) else None

-- the stage behind the least statement number
abbrev pub stage_after : ℕ → ℕ → NumberRest → Option NumberRest
stage_after first depth n = if nat_eq n.value first then on (after (44 ∷ []) n.rest) (λ text. on (number_from text) (line_end depth)) else None

-- the stage in the line of a codelet at the front of a text, and what stands behind the line
abbrev pub line_from : ℕ → ℕ → List ℕ → Option NumberRest
line_from first depth text = on (after (codes "codelet,") text) (λ text. on (number_from text) (stage_after first depth))
