use Rattle.std.proofs.Common.{sym}
use Rattle.dom_parser.proofs.Programs.{no_brace, no_int, first_fails}
use Rattle.dom_parser.proofs.heads.field_block.Goals as goal

pub returns-then-not-is_fixed-clause-err : goal.returns-then-not-is_fixed-clause-err
returns-then-not-is_fixed-clause-err c =
    no_brace c.args.tokens.now c.args.at (sym c.if-not-is_fixed.ensures.value)

pub returns-then-not-is_fixed-2-clause-err : goal.returns-then-not-is_fixed-2-clause-err
returns-then-not-is_fixed-2-clause-err c =
    no_int c.args.tokens.now c.args.at (sym c.if-not-is_fixed.ensures.value) (sym c.if-not-is_fixed-2.ensures.value)

pub returns-in-Err-clause-err : goal.returns-in-Err-clause-err
returns-in-Err-clause-err c =
    first_fails c.args.tokens.now c.args.at c.in-Err.fault (sym c.if-not-is_fixed.ensures.value) (sym c.if-not-is_fixed-2.ensures.value) c.in-Err.ensures.err
