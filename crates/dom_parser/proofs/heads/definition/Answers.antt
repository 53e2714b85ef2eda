use Rattle.std.proofs.Common.{sym}
use Rattle.dom_parser.proofs.HeadParts.{no_define, no_define_name, define_constant, reads_define}
use Rattle.dom_parser.proofs.heads.definition.Goals as goal

pub returns-then-not-is_fixed-clause-err : goal.returns-then-not-is_fixed-clause-err
returns-then-not-is_fixed-clause-err c =
    no_define c.args.tokens.now c.args.at c.requires.hash (sym c.if-not-is_fixed.ensures.value)

pub returns-then-not-is_name-clause-err : goal.returns-then-not-is_name-clause-err
returns-then-not-is_name-clause-err c =
    no_define_name c.args.tokens.now c.args.at c.requires.hash (sym c.if-not-is_fixed.ensures.value) (sym c.if-not-is_name.ensures.value)

pub returns-in_ok-name-in-Ok-clause-ok : goal.returns-in_ok-name-in-Ok-clause-ok
returns-in_ok-name-in-Ok-clause-ok c =
    reads_define c.args.tokens.now c.args.at c.in-Ok.next c.offset-at.result c.in-Ok.word c.in_ok-name-in-Ok.name c.requires.hash (sym c.if-not-is_fixed.ensures.value) (sym c.if-not-is_name.ensures.value) c.in-Ok.ensures.ok c.offset-at.ensures c.in_ok-name-in-Ok.ensures.ok

pub returns-in-Err-clause-err : goal.returns-in-Err-clause-err
returns-in-Err-clause-err c =
    define_constant c.args.tokens.now c.args.at c.in-Err.fault c.requires.hash (sym c.if-not-is_fixed.ensures.value) (sym c.if-not-is_name.ensures.value) c.in-Err.ensures.err
