use Rattle.std.proofs.Common.{drop, map}
use Rattle.dom_ast.specs.Form as syntax
use Rattle.dom_ast.specs.inner.ExprOps as expr_ops
use Rattle.dom_ast.specs.Resolved as tree
use Rattle.dom_ast.specs.inner.PartOps as part_ops
use Rattle.dom_checks.proofs.Walked.{ArgsLeft, OpsLeft}
use Rattle.dom_checks.proofs.expressions.+expressions.Given as goal

abbrev pub invariant-arguments-arguments : goal.invariant-arguments-arguments
invariant-arguments-arguments l =
    ArgsLeft l.in_guard l.scope l.fn.seen l.seen (map tree.form l.parts) (syntax.forms l.args) (syntax.forms (drop l.arg-index l.args))

abbrev pub invariant-operands-operands : goal.invariant-operands-operands
invariant-operands-operands l =
    OpsLeft l.in_guard l.scope l.fn.seen l.seen (map part_ops.op_form l.parts) (expr_ops.op_forms l.rest) (expr_ops.op_forms (drop l.op-index l.rest))
