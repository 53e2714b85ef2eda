-- What stands for names, as it is kept in tables, and the walk over them.
use Rattle.std.specs.Prelude.{ℕ, List, [], ◌∷◌, ◌++◌, Option, Some, None, fold, length, map, replicate, slice_index_or, slice_set}
use Rattle.std.specs.List.{range_with_len}
use Rattle.dom_words.specs.declared.operators.BinOp.{BinOp}
use Rattle.dom_ast.specs.declared.part.Goal.{Goal}
use Rattle.dom_ast.specs.declared.part.Goal.TheVariants as goal
use Rattle.dom_ast.specs.Flanks.{FlankForm}
use Rattle.dom_ast.specs.Flanks as flank
use Rattle.dom_ast.specs.Named.{NamedForm, read, make, write, named_form}
use Rattle.dom_ast.specs.Resolved.{PartForm}
use Rattle.dom_ast.specs.Straight.{StepForm}
use Rattle.ssa_names.specs.declared.naming.Walk.{Walk}
use Rattle.ssa_names.specs.declared.operand.Operand.{Operand}
use Rattle.ssa_names.specs.declared.operand.Operand.TheVariants.{Number, Field, Made}
use Rattle.ssa_names.specs.declared.tables.Tables.{Tables}
use Rattle.ssa_names.specs.Naming.{Current, operand_form, place_operand, plain, renamed}

-- operand k of a row; the number 0 where there is none
abbrev pub at : List Operand → ℕ → Operand
at operands k = slice_index_or operands k (Number 0)

-- a row of operands for the fields, for the arrays, for the fresh names, and for the indexes of the arrays
pub record Rows : Type 0 where
  pub fields : List Operand
  pub arrays : List Operand
  pub fresh : List Operand
  pub indexes : List Operand

abbrev pub rows_of : Tables → Rows
rows_of t = record { fields = t.fields.items; arrays = t.arrays.items; fresh = t.fresh.items; indexes = t.indexes.items }

-- what stands for each name by rows
abbrev pub current_in : Rows → Current
current_in rows = record { fields = at rows.fields; arrays = at rows.arrays; fresh = at rows.fresh; indexes = at rows.indexes }

abbrev pub current_of : Tables → Current
current_of t = current_in (rows_of t)

-- an operand stands for a target from now on
abbrev pub rows_assigned : Goal → Operand → Rows → Rows
rows_assigned (goal.Field f) o rows = record rows { fields = slice_set rows.fields f o }
rows_assigned (goal.State a i) o rows = record rows { arrays = slice_set rows.arrays a o }
rows_assigned (goal.Fresh k) o rows = record rows { fresh = slice_set rows.fresh k o }

-- an operand stands for the word of an array that is read at an index
abbrev pub rows_read : ℕ → Operand → Operand → Rows → Rows
rows_read a i o rows = record rows { arrays = slice_set rows.arrays a o; indexes = slice_set rows.indexes a i }

-- the items so far, and the rows then
pub record Tabled : Type 0 where
  pub rows : Rows
  pub items : List NamedForm

abbrev pub tabled_of : Walk → Tabled
tabled_of w = record { rows = rows_of w.tables; items = map named_form w.items }

-- a read flank, a step and a write flank
abbrev pub tabled_read : Tabled → ℕ → Operand → Tabled
tabled_read t a i = record { rows = rows_read a i (Made (length t.items)) t.rows; items = t.items ++ read a (operand_form i) ∷ [] }

abbrev pub tabled_set : Tabled → StepForm → Option Operand → Tabled
tabled_set t s (Some o) = record t { rows = rows_assigned s.target o t.rows }
tabled_set t s None = record {
  rows = rows_assigned s.target (Made (length t.items)) t.rows;
  items = t.items ++ make (renamed (current_in t.rows) s.value) ∷ [];
}

abbrev pub tabled_write : Tabled → ℕ → Tabled
tabled_write t a = record t { items = t.items ++ write a (operand_form (at t.rows.indexes a)) (operand_form (at t.rows.arrays a)) ∷ [] }

-- one flank or step more
abbrev pub tabled_item : Tabled → FlankForm → Tabled
tabled_item t (flank.read a i) = tabled_read t a (place_operand (current_in t.rows) i)
tabled_item t (flank.set s) = tabled_set t s (plain (current_in t.rows) s.value)
tabled_item t (flank.write a i) = tabled_write t a

-- each entered field stands for itself
abbrev pub first_fields : ℕ → List Operand
first_fields fields = map Field (range_with_len 0 fields)

-- rows for so many fields, arrays and fresh names
abbrev pub starting_rows : ℕ → ℕ → ℕ → Rows
starting_rows fields arrays names = record {
  fields = first_fields fields;
  arrays = replicate arrays (Number 0);
  fresh = replicate names (Number 0);
  indexes = replicate arrays (Number 0);
}

-- the items of a list of steps between flanks, and the rows at the end
abbrev pub tabled : ℕ → ℕ → ℕ → List FlankForm → Tabled
tabled fields arrays names items = fold tabled_item (record { rows = starting_rows fields arrays names; items = [] }) items

-- an operator with its operand renamed
abbrev pub op_renamed : Current → BinOp × PartForm → BinOp × PartForm
op_renamed now p = (p.0, renamed now p.1)
