-- Flanks: where statements read and write arrays.
use Rattle.std.specs.Prelude.{ℕ, Bool, true, false, nat_eq, nat_lt}
use Rattle.dom_flat.specs.declared.line.Operand.{Operand}
use Rattle.dom_flat.specs.declared.line.Line.{Line}
use Rattle.dom_flat.specs.declared.line.Line.TheVariants as line

-- what a statement is to the state: it fetches from an array at an index, or stores to an array at an index an operand, or
-- it is no flank
pub data Flank : Type 0 where
  fetch : ℕ → Operand → Flank
  store : ℕ → Operand → Operand → Flank
  plain : Flank

-- what this statement is to the state
abbrev pub flank_of : Line → Flank
flank_of (line.Fetch array i) = fetch array i
flank_of (line.Store array i value) = store array i value
flank_of (line.Un op a) = plain
flank_of (line.Bin op a b) = plain
flank_of (line.Cond c a b) = plain
flank_of (line.Hash unit modulus args) = plain

abbrev pub is_read_flank : Flank → Bool
is_read_flank (fetch a i) = true
is_read_flank (store a i v) = false
is_read_flank plain = false

abbrev pub is_write_flank : Flank → Bool
is_write_flank (fetch a i) = false
is_write_flank (store a i v) = true
is_write_flank plain = false

-- the write flank of this array
abbrev pub writes_array : ℕ → Flank → Bool
writes_array a (fetch b i) = false
writes_array a (store b i v) = nat_eq a b
writes_array a plain = false

-- the array of a flank is one of so many
abbrev pub is_array_below : ℕ → Flank → Bool
is_array_below n (fetch a i) = nat_lt a n
is_array_below n (store a i v) = nat_lt a n
is_array_below n plain = true
