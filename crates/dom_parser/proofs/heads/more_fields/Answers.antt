use Rattle.std.proofs.Common.{sym}
use Rattle.dom_parser.proofs.Programs.{fields_start, fields_next, fields_fail, fields_open, reads_fields}
use Rattle.dom_parser.proofs.heads.more_fields.Goals as goal

pub fields-init : goal.fields-init
fields-init c =
    rw (c.in_ok-add_field.ensures.ok, c.new-fields.ensures) (fields_start c.args.tokens.now c.args.at c.args.first.0 c.args.first.1 c.requires.brace c.requires.int c.requires.first)

pub fields-preserved : goal.fields-preserved
fields-preserved c =
    fields_next c.args.tokens.now c.args.at c.fields.next c.in-Ok.more.0 c.in-Ok.more.1 c.fields.fields c.add_field-in-Ok.new.to c.fields.invariant (sym c.fields-test.ensures.value) c.in-Ok.ensures.ok c.in_ok-add_field-in-Ok.ensures.ok

pub returns-in-Err-clause-err : goal.returns-in-Err-clause-err
returns-in-Err-clause-err c =
    fields_fail c.args.tokens.now c.args.at c.fields.next _ c.in-Err.fault c.fields.invariant (sym c.fields-test.ensures.value) c.in-Err.ensures.err

pub returns-then-is_fixed-clause-ok : goal.returns-then-is_fixed-clause-ok
returns-then-is_fixed-clause-ok c =
    reads_fields c.args.tokens.now c.args.at c.fields.next c.fields.fields c.fields.invariant (sym c.fields-test.ensures.value) (sym c.if-is_fixed.ensures.value)

pub returns-else-is_fixed-clause-err : goal.returns-else-is_fixed-clause-err
returns-else-is_fixed-clause-err c =
    fields_open c.args.tokens.now c.args.at c.fields.next _ c.fields.invariant (sym c.fields-test.ensures.value) (sym c.if-is_fixed.ensures.value)
