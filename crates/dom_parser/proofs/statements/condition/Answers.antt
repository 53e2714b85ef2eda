use Rattle.std.proofs.Common.{sym}
use Rattle.dom_ast.specs.Form.{form}
use Rattle.dom_parser.proofs.Stmts.{no_condition, condition_fails, reads_condition}
use Rattle.dom_parser.proofs.statements.condition.Goals as goal

pub returns-then-not-is_fixed-clause-err : goal.returns-then-not-is_fixed-clause-err
returns-then-not-is_fixed-clause-err c =
    no_condition c.args.depth c.args.tokens.now c.args.at (sym c.if-not-is_fixed.ensures.value)

pub returns-in-Ok-clause-ok : goal.returns-in-Ok-clause-ok
returns-in-Ok-clause-ok c =
    reads_condition c.args.depth c.args.tokens.now c.args.at c.in-Ok.next (form c.in-Ok.test) (sym c.if-not-is_fixed.ensures.value) c.in-Ok.ensures.ok

pub returns-in-Err-clause-err : goal.returns-in-Err-clause-err
returns-in-Err-clause-err c =
    condition_fails c.args.depth c.args.tokens.now c.args.at c.in-Err.fault (sym c.if-not-is_fixed.ensures.value) c.in-Err.ensures.err
