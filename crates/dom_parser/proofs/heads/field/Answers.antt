use Rattle.std.proofs.Common.{sym}
use Rattle.dom_parser.proofs.Programs.{field_name, field_semi, reads_field}
use Rattle.dom_parser.proofs.heads.field.Goals as goal

pub returns-then-not-is_name-clause-err : goal.returns-then-not-is_name-clause-err
returns-then-not-is_name-clause-err c =
    field_name c.args.tokens.now c.args.at (sym c.if-not-is_name.ensures.value)

pub returns-then-not-is_fixed-clause-err : goal.returns-then-not-is_fixed-clause-err
returns-then-not-is_fixed-clause-err c =
    field_semi c.args.tokens.now c.args.at (sym c.if-not-is_name.ensures.value) (sym c.if-not-is_fixed.ensures.value)

pub returns-clause-ok : goal.returns-clause-ok
returns-clause-ok c =
    reads_field c.args.tokens.now c.args.at c.offset.result c.in_ok-name.name c.requires.int (sym c.if-not-is_name.ensures.value) (sym c.if-not-is_fixed.ensures.value) c.offset.ensures c.in_ok-name.ensures.ok
