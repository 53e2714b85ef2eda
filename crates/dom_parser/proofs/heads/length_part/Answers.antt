use Rattle.std.proofs.Common.{sym, arith}
use Rattle.dom_parser.proofs.HeadParts.{no_size_part, size_part_fails, size_part_open, reads_size_part}
use Rattle.dom_parser.proofs.heads.length_part.Goals as goal

pub returns-then-not-is_fixed-clause-ok : goal.returns-then-not-is_fixed-clause-ok
returns-then-not-is_fixed-clause-ok c =
    no_size_part c.args.tokens.now c.args.at (omega arith) (sym c.if-not-is_fixed.ensures.value)

pub returns-then-is_fixed-clause-ok : goal.returns-then-is_fixed-clause-ok
returns-then-is_fixed-clause-ok c =
    reads_size_part c.args.tokens.now c.args.at c.in-Ok.next c.in-Ok.length (sym c.if-not-is_fixed.ensures.value) c.in-Ok.ensures.ok (sym c.if-is_fixed.ensures.value)

pub returns-else-is_fixed-clause-err : goal.returns-else-is_fixed-clause-err
returns-else-is_fixed-clause-err c =
    size_part_open _ c.args.tokens.now c.args.at c.in-Ok.next (sym c.if-not-is_fixed.ensures.value) c.in-Ok.ensures.ok (sym c.if-is_fixed.ensures.value)

pub returns-in-Err-clause-err : goal.returns-in-Err-clause-err
returns-in-Err-clause-err c =
    size_part_fails c.args.tokens.now c.args.at c.in-Err.fault (sym c.if-not-is_fixed.ensures.value) c.in-Err.ensures.err
