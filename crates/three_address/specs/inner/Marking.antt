-- How the marks of needed statements are found.
use Rattle.std.specs.Prelude.{ℕ, ◌-◌, ◌||◌, nat_lt, Bool, true, false, List, fold, slice_index_or, slice_set, if◌then◌else◌}
use Rattle.dom_flat.specs.Lines.{operands_of}
use Rattle.dom_flat.specs.declared.line.Operand.{Operand}
use Rattle.dom_flat.specs.declared.line.Operand.TheVariants.{Const, Value}
use Rattle.dom_flat.specs.declared.line.Line.{Line}
use Rattle.dom_flat.specs.declared.line.Line.TheVariants as line

-- a mark at the statement that makes the operand, if one does
abbrev pub marked : ℕ → List Bool → Operand → List Bool
marked fields marks (Const w) = marks
marked fields marks (Value v) = if nat_lt v fields then marks else slice_set marks (v - fields) true

-- marks at the statements that make the operands
abbrev pub all_marked : ℕ → List Bool → List Operand → List Bool
all_marked fields marks os = fold (marked fields) marks os

-- a mark at the array that a statement writes
abbrev pub store_marked : List Bool → Line → List Bool
store_marked stored (line.Store a i v) = slice_set stored a true
store_marked stored _ = stored

-- a write flank, or the read flank of an array with a mark
abbrev pub is_marked_flank : List Bool → Line → Bool
is_marked_flank stored (line.Fetch a i) = slice_index_or stored a false
is_marked_flank stored (line.Store a i v) = true
is_marked_flank stored _ = false

-- statement k, where it is needed, marks itself and those whose values it uses
abbrev pub swept_one : ℕ → List Bool → ℕ → Line → List Bool → List Bool
swept_one fields stored k l marks =
    if slice_index_or marks k false || is_marked_flank stored l
    then all_marked fields (slice_set marks k true) (operands_of l)
    else marks
