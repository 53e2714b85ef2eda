use Rattle.std.proofs.Common.{sym, arith}
use Rattle.dom_parser.proofs.HeadParts.{no_start_part, start_part_fails, reads_start_part}
use Rattle.dom_parser.proofs.heads.init_part.Goals as goal

pub returns-then-not-is_fixed-clause-ok : goal.returns-then-not-is_fixed-clause-ok
returns-then-not-is_fixed-clause-ok c =
    no_start_part c.args.tokens.now c.args.at (omega arith) (sym c.if-not-is_fixed.ensures.value)

pub returns-in-Ok-clause-ok : goal.returns-in-Ok-clause-ok
returns-in-Ok-clause-ok c =
    reads_start_part c.args.tokens.now c.args.at c.in-Ok.next c.in-Ok.init (sym c.if-not-is_fixed.ensures.value) c.in-Ok.ensures.ok

pub returns-in-Err-clause-err : goal.returns-in-Err-clause-err
returns-in-Err-clause-err c =
    start_part_fails c.args.tokens.now c.args.at c.in-Err.fault (sym c.if-not-is_fixed.ensures.value) c.in-Err.ensures.err
