use Rattle.std.proofs.Common.{sym}
use Rattle.dom_parser.proofs.Exprs.{fails_field, field_read}
use Rattle.dom_parser.proofs.expressions.field_of.Goals as goal

pub returns-then-not-is_name-clause-err : goal.returns-then-not-is_name-clause-err
returns-then-not-is_name-clause-err c =
    fails_field c.args.depth c.args.tokens.now c.args.at c.requires.depth c.requires.name c.requires.dot (sym c.if-not-is_name.ensures.value)

pub returns-clause-ok : goal.returns-clause-ok
returns-clause-ok c =
    field_read c.args.depth c.args.tokens.now c.args.at c.offset.result c.offset-2.result c.in_ok-name_at.field-0 c.in_ok-name_at-2.field-0 c.requires.depth c.requires.name c.requires.dot (sym c.if-not-is_name.ensures.value) c.offset.ensures c.in_ok-name_at.ensures.ok c.offset-2.ensures c.in_ok-name_at-2.ensures.ok
