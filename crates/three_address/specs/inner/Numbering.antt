-- How the new numbers of values are found.
use Rattle.std.specs.Prelude.{ℕ, ◌+◌, ◌-◌, nat_lt, Bool, true, false, List, [], ◌∷◌, slice_index, if◌then◌else◌}
use Rattle.std.specs.List.{list_all}
use Rattle.dom_flat.specs.Kept.{are_below}
use Rattle.dom_flat.specs.Lines.{operands_of}
use Rattle.dom_flat.specs.declared.line.Operand.{Operand}
use Rattle.dom_flat.specs.declared.line.Line.{Line}
use Rattle.three_address.specs.Flattening.{AllFlattened}

-- statements with the operands of the outputs
abbrev pub all_of : List Line → List Operand → AllFlattened
all_of lines operands = record { lines = lines; operands = operands }

-- all operands are constants or values below n
abbrev pub lines_below : ℕ → List Line → Bool
lines_below n lines = list_all (λ l. are_below n (operands_of l)) lines

-- the new number of each statement's value, from n on
abbrev pub numbers_from : ℕ → List Bool → List ℕ
numbers_from n [] = []
numbers_from n (true ∷ marks) = n ∷ numbers_from (n + 1) marks
numbers_from n (false ∷ marks) = n ∷ numbers_from n marks

-- a value's new number by a table of those of statements
abbrev pub number_in : ℕ → List ℕ → ℕ → ℕ
number_in fields numbers v = if nat_lt v fields then v else slice_index numbers (v - fields)
