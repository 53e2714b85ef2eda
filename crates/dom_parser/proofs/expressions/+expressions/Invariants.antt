use Rattle.std.proofs.Common.{◌+◌, ◌-◌, ◌*◌, map, length}
use Rattle.dom_ast.specs.Form.{form}
use Rattle.dom_ast.specs.inner.ExprOps.{op_form}
use Rattle.dom_parser.proofs.SoFar.{LevelSoFar, ArgsSoFar}
use Rattle.dom_parser.proofs.expressions.+expressions.Given as goal

abbrev pub decreases-expression : goal.decreases-expression
decreases-expression l = 20 * (length l.tokens.now - l.at) + 16

abbrev pub decreases-ranked : goal.decreases-ranked
decreases-ranked l = 20 * (length l.tokens.now - l.at) + 5 + l.rank

abbrev pub decreases-operands : goal.decreases-operands
decreases-operands l = 20 * (length l.tokens.now - l.at) + 5

abbrev pub decreases-conditional : goal.decreases-conditional
decreases-conditional l = 20 * (length l.tokens.now - l.at) + 5

abbrev pub decreases-unary : goal.decreases-unary
decreases-unary l = 20 * (length l.tokens.now - l.at) + 4

abbrev pub decreases-operated : goal.decreases-operated
decreases-operated l = 20 * (length l.tokens.now - l.at) + 3

abbrev pub decreases-primary : goal.decreases-primary
decreases-primary l = 20 * (length l.tokens.now - l.at) + 3

abbrev pub decreases-named : goal.decreases-named
decreases-named l = 20 * (length l.tokens.now - l.at) + 2

abbrev pub decreases-enclosed : goal.decreases-enclosed
decreases-enclosed l = 20 * (length l.tokens.now - l.at)

abbrev pub decreases-arguments : goal.decreases-arguments
decreases-arguments l = 20 * (length l.tokens.now - l.at) + 1

abbrev pub decreases-more_arguments : goal.decreases-more_arguments
decreases-more_arguments l = 20 * (length l.tokens.now - l.at)

abbrev pub invariant-operands-operands : goal.invariant-operands-operands
invariant-operands-operands l =
    LevelSoFar l.depth (l.rank - 1) l.tokens l.at l.next (form l.first) (map op_form l.rest)

abbrev pub decreases-operands-operands : goal.decreases-operands-operands
decreases-operands-operands l = length l.tokens - l.next

abbrev pub invariant-more_arguments-arguments : goal.invariant-more_arguments-arguments
invariant-more_arguments-arguments l = ArgsSoFar l.depth l.tokens l.at l.next (map form l.args)

abbrev pub decreases-more_arguments-arguments : goal.decreases-more_arguments-arguments
decreases-more_arguments-arguments l = length l.tokens - l.next
