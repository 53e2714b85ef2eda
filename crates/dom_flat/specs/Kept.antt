-- What holds of a statement list.
use Rattle.std.specs.Prelude.{ℕ, Bool, true, false, ◌&&◌, nat_eq, nat_le, nat_lt, List, [], ◌∷◌, ◌++◌, length, map, replicate, slice_index_or}
use Rattle.std.specs.List.{list_all}
use Rattle.dom_words.specs.Order.{Access, Event, reading, writing, working, are_ordered}
use Rattle.dom_words.specs.State.{fits_word}
use Rattle.dom_flat.specs.declared.line.Operand.{Operand}
use Rattle.dom_flat.specs.declared.line.Operand.TheVariants.{Const, Value}
use Rattle.dom_flat.specs.declared.line.Line.{Line}
use Rattle.dom_flat.specs.declared.line.Line.TheVariants as line
use Rattle.dom_flat.specs.Flanks.{Flank, fetch, store, plain, flank_of, is_array_below}
use Rattle.dom_flat.specs.Lines.{makes, operands_of}

-- a hash has as many arguments as its unit says
abbrev pub has_its_args : Line → Bool
has_its_args (line.Hash unit modulus args) = nat_eq (length args) unit.args
has_its_args _ = true

-- the array of a flank is one of so many
abbrev pub has_array : ℕ → Line → Bool
has_array arrays l = is_array_below arrays (flank_of l)

-- a hash has a modulus of at most 2147483647
abbrev pub has_small_modulus : Line → Bool
has_small_modulus (line.Hash unit modulus args) = nat_le modulus 2147483647
has_small_modulus _ = true

abbrev pub have_small_moduli : List Line → Bool
have_small_moduli lines = list_all has_small_modulus lines

-- a value, or a constant that is a word
abbrev pub has_word : Operand → Bool
has_word (Const w) = fits_word w
has_word (Value v) = true

abbrev pub have_words : List Operand → Bool
have_words operands = list_all has_word operands

abbrev pub lines_have_words : List Line → Bool
lines_have_words lines = list_all (λ l. have_words (operands_of l)) lines

-- the arrays of flanks are in range, and hashes have as many arguments as their units say
abbrev pub lines_within : ℕ → List Line → Bool
lines_within arrays lines = list_all (λ l. has_array arrays l && has_its_args l) lines

-- a constant, or a value with a number below n
abbrev pub is_below : ℕ → Operand → Bool
is_below n (Const w) = true
is_below n (Value v) = nat_lt v n

abbrev pub are_below : ℕ → List Operand → Bool
are_below n operands = list_all (is_below n) operands

-- which of the values 0, 1, .. are there: those of the fields are
abbrev pub entered : ℕ → List Bool
entered fields = replicate fields true

-- and those of statements, but for the numbers of write flanks
abbrev pub values_of : ℕ → List Line → List Bool
values_of fields lines = entered fields ++ map makes lines

-- a constant, or a value that is there
abbrev pub is_known : List Bool → Operand → Bool
is_known values (Const w) = true
is_known values (Value v) = slice_index_or values v false

abbrev pub are_known : List Bool → List Operand → Bool
are_known values operands = list_all (is_known values) operands

-- statements use the values before them
abbrev pub are_after : List Bool → List Line → Bool
are_after values [] = true
are_after values (l ∷ lines) = are_known values (operands_of l) && are_after (values ++ makes l ∷ []) lines

-- the same constant or value
abbrev pub is_same : Operand → Operand → Bool
is_same (Const w) (Const v) = nat_eq w v
is_same (Const w) (Value v) = false
is_same (Value v) (Const w) = false
is_same (Value v) (Value u) = nat_eq v u

-- what a statement is to the arrays
abbrev pub event_of : Flank → Event Operand
event_of (fetch a i) = reading a i
event_of (store a i v) = writing a i
event_of plain = working []

-- after these reads and writes: no array is read twice or written twice, and a write flank stands after its array's read flank
-- and has its index
abbrev pub are_flanked : List (Access Operand) → List ℕ → List Line → Bool
are_flanked reads writes lines = are_ordered is_same reads writes (map (λ l. event_of (flank_of l)) lines)
