use Rattle.std.proofs.Common.{sym}
use Rattle.dom_ast.specs.Form.{target_form}
use Rattle.dom_parser.proofs.Stmts.{target_fails, no_equals, value_fails, no_semi, assign_read}
use Rattle.dom_parser.proofs.statements.assignment.Goals as goal

pub returns-then-not-is_fixed-clause-err : goal.returns-then-not-is_fixed-clause-err
returns-then-not-is_fixed-clause-err c =
    no_equals c.args.depth c.args.tokens.now c.args.at c.in-Ok.after (target_form c.in-Ok.target) c.requires.depth c.requires.lead c.in-Ok.ensures.ok (sym c.if-not-is_fixed.ensures.value)

pub returns-then-is_fixed-clause-ok : goal.returns-then-is_fixed-clause-ok
returns-then-is_fixed-clause-ok c =
    assign_read c.args.depth c.args.tokens.now c.args.at c.in-Ok.after c.in-Ok-expression.next c.offset-at.result c.in-Ok.target c.in-Ok-expression.value c.requires.depth c.requires.lead c.in-Ok.ensures.ok (sym c.if-not-is_fixed.ensures.value) c.in-Ok-expression.ensures.ok (sym c.if-is_fixed.ensures.value) c.offset-at.ensures

pub returns-else-is_fixed-clause-err : goal.returns-else-is_fixed-clause-err
returns-else-is_fixed-clause-err c =
    no_semi c.args.depth _ c.args.tokens.now c.args.at c.in-Ok.after c.in-Ok-expression.next (target_form c.in-Ok.target) c.requires.depth c.requires.lead c.in-Ok.ensures.ok (sym c.if-not-is_fixed.ensures.value) c.in-Ok-expression.ensures.ok (sym c.if-is_fixed.ensures.value)

pub returns-in-Err-expression-clause-err : goal.returns-in-Err-expression-clause-err
returns-in-Err-expression-clause-err c =
    value_fails c.args.depth c.args.tokens.now c.args.at c.in-Ok.after (target_form c.in-Ok.target) c.in-Err-expression.fault c.requires.depth c.requires.lead c.in-Ok.ensures.ok (sym c.if-not-is_fixed.ensures.value) c.in-Err-expression.ensures.err

pub returns-in-Err-clause-err : goal.returns-in-Err-clause-err
returns-in-Err-clause-err c =
    target_fails c.args.depth c.args.tokens.now c.args.at c.in-Err.fault c.requires.depth c.requires.lead c.in-Err.ensures.err
