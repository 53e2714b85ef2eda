use Rattle.std.proofs.Common.{◌+◌, ◌-◌, ◌*◌, map, length}
use Rattle.dom_ast.specs.Form.{stmt_form}
use Rattle.dom_parser.proofs.SoFar.{StmtsSoFar}
use Rattle.dom_parser.proofs.statements.+statements.Given as goal

abbrev pub decreases-block : goal.decreases-block
decreases-block l = 5 * (length l.tokens.now - l.at)

abbrev pub decreases-statement : goal.decreases-statement
decreases-statement l = 5 * (length l.tokens.now - l.at) + 3

abbrev pub decreases-branch : goal.decreases-branch
decreases-branch l = 5 * (length l.tokens.now - l.at) + 2

abbrev pub decreases-body : goal.decreases-body
decreases-body l = 5 * (length l.tokens.now - l.at) + 1

abbrev pub decreases-else_part : goal.decreases-else_part
decreases-else_part l = 5 * (length l.tokens.now - l.at)

abbrev pub invariant-block-statements : goal.invariant-block-statements
invariant-block-statements l = StmtsSoFar l.depth l.tokens l.at l.next (map stmt_form l.stmts)

abbrev pub decreases-block-statements : goal.decreases-block-statements
decreases-block-statements l = length l.tokens - l.next
