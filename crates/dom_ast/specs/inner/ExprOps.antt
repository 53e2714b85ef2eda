-- The form of operators with their operands, which are expressions.
use Rattle.std.specs.Prelude.{List, map}
use Rattle.dom_words.specs.declared.operators.BinOp.{BinOp}
use Rattle.dom_ast.specs.declared.expr.Expr.{Expr}
use Rattle.dom_ast.specs.Form.{ExprForm, OpForms, form, ops_of}

abbrev pub op_form : BinOp × Expr → BinOp × ExprForm
op_form p = (p.0, form p.1)

abbrev pub op_forms : List (BinOp × Expr) → OpForms
op_forms ps = ops_of (map op_form ps)
