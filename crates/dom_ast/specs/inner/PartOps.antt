-- The form of operators with their operands, which are resolved expressions.
use Rattle.std.specs.Prelude.{List, map}
use Rattle.dom_words.specs.declared.operators.BinOp.{BinOp}
use Rattle.dom_ast.specs.declared.part.Part.{Part}
use Rattle.dom_ast.specs.Resolved.{PartForm, OpForms, form, ops_of}

abbrev pub op_form : BinOp × Part → BinOp × PartForm
op_form p = (p.0, form p.1)

abbrev pub op_forms : List (BinOp × Part) → OpForms
op_forms ps = ops_of (map op_form ps)
