-- A statement list without its invariants: what definitions take that speak of one.
use Rattle.std.specs.Prelude.{ℕ, List, length}
use Rattle.dom_flat.specs.declared.flat.Flat.{Flat}
use Rattle.dom_flat.specs.declared.line.Line.{Line}
use Rattle.dom_flat.specs.declared.line.Operand.{Operand}

-- the number of fields, the number of arrays, the statements and the outputs
pub record FlatForm : Type 0 where
  pub fields : ℕ
  pub arrays : ℕ
  pub lines : List Line
  pub outputs : List Operand

abbrev pub flat_form : Flat → FlatForm
flat_form flat = record {
  fields = length flat.fields;
  arrays = length flat.arrays;
  lines = flat.lines;
  outputs = flat.outputs;
}
