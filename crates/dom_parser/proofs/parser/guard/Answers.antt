use Rattle.std.proofs.Common.{sym, arith}
use Rattle.dom_ast.specs.Form.{form}
use Rattle.dom_parser.proofs.Transactions.{passes_guard, guard_fails, reads_guard}
use Rattle.dom_parser.proofs.parser.guard.Goals as goal

pub returns-then-not-is_fixed-clause-ok : goal.returns-then-not-is_fixed-clause-ok
returns-then-not-is_fixed-clause-ok c =
    passes_guard c.args.tokens.now c.args.at (omega arith) (sym c.if-not-is_fixed.ensures.value)

pub returns-in-Ok-clause-ok : goal.returns-in-Ok-clause-ok
returns-in-Ok-clause-ok c =
    reads_guard c.args.tokens.now c.args.at c.in-Ok.next (form c.in-Ok.test) (sym c.if-not-is_fixed.ensures.value) c.in-Ok.ensures.ok

pub returns-in-Err-clause-err : goal.returns-in-Err-clause-err
returns-in-Err-clause-err c =
    guard_fails c.args.tokens.now c.args.at c.in-Err.fault (sym c.if-not-is_fixed.ensures.value) c.in-Err.ensures.err
