use Rattle.std.proofs.Common.{sym}
use Rattle.dom_parser.proofs.HeadParts.{bare_start, bare_fails, braced_fails, braced_open, braced_start}
use Rattle.dom_parser.proofs.heads.init.Goals as goal

pub returns-in-Ok-clause-ok : goal.returns-in-Ok-clause-ok
returns-in-Ok-clause-ok c =
    bare_start c.args.tokens.now c.args.at c.in-Ok.next c.in-Ok.init (sym c.if-not-is_fixed.ensures.value) c.in-Ok.ensures.ok

pub returns-in-Err-clause-err : goal.returns-in-Err-clause-err
returns-in-Err-clause-err c =
    bare_fails c.args.tokens.now c.args.at c.in-Err.fault (sym c.if-not-is_fixed.ensures.value) c.in-Err.ensures.err

pub returns-then-is_fixed-clause-ok : goal.returns-then-is_fixed-clause-ok
returns-then-is_fixed-clause-ok c =
    braced_start c.args.tokens.now c.args.at c.in-Ok-value.next c.in-Ok-value.init (sym c.if-not-is_fixed.ensures.value) c.in-Ok-value.ensures.ok (sym c.if-is_fixed.ensures.value)

pub returns-else-is_fixed-clause-err : goal.returns-else-is_fixed-clause-err
returns-else-is_fixed-clause-err c =
    braced_open _ c.args.tokens.now c.args.at c.in-Ok-value.next (sym c.if-not-is_fixed.ensures.value) c.in-Ok-value.ensures.ok (sym c.if-is_fixed.ensures.value)

pub returns-in-Err-value-clause-err : goal.returns-in-Err-value-clause-err
returns-in-Err-value-clause-err c =
    braced_fails c.args.tokens.now c.args.at c.in-Err-value.fault (sym c.if-not-is_fixed.ensures.value) c.in-Err-value.ensures.err
