use Rattle.std.proofs.Common.{sym}
use Rattle.dom_parser.proofs.Programs.{no_struct, struct_name, struct_fields, struct_semi, reads_struct}
use Rattle.dom_parser.proofs.heads.structure.Goals as goal

pub returns-then-not-is_fixed-clause-err : goal.returns-then-not-is_fixed-clause-err
returns-then-not-is_fixed-clause-err c =
    no_struct c.args.tokens.now c.args.at (sym c.if-not-is_fixed.ensures.value)

pub returns-then-not-is_name-clause-err : goal.returns-then-not-is_name-clause-err
returns-then-not-is_name-clause-err c =
    struct_name c.args.tokens.now c.args.at (sym c.if-not-is_fixed.ensures.value) (sym c.if-not-is_name.ensures.value)

pub returns-then-not-is_fixed-2-clause-err : goal.returns-then-not-is_fixed-2-clause-err
returns-then-not-is_fixed-2-clause-err c =
    struct_semi c.args.tokens.now c.args.at c.in-Ok.next c.in-Ok.fields (sym c.if-not-is_fixed.ensures.value) (sym c.if-not-is_name.ensures.value) c.in-Ok.ensures.ok (sym c.if-not-is_fixed-2.ensures.value)

pub returns-in_ok-tag-in-Ok-clause-ok : goal.returns-in_ok-tag-in-Ok-clause-ok
returns-in_ok-tag-in-Ok-clause-ok c =
    reads_struct c.args.tokens.now c.args.at c.in-Ok.next c.offset-at.result c.in_ok-tag-in-Ok.tag c.in-Ok.fields (sym c.if-not-is_fixed.ensures.value) (sym c.if-not-is_name.ensures.value) c.in-Ok.ensures.ok (sym c.if-not-is_fixed-2.ensures.value) c.offset-at.ensures c.in_ok-tag-in-Ok.ensures.ok

pub returns-in-Err-clause-err : goal.returns-in-Err-clause-err
returns-in-Err-clause-err c =
    struct_fields c.args.tokens.now c.args.at c.in-Err.fault (sym c.if-not-is_fixed.ensures.value) (sym c.if-not-is_name.ensures.value) c.in-Err.ensures.err
