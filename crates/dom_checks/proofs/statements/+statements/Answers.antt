use Rattle.std.proofs.Common.{length, refl, arith}
use Rattle.std.proofs.lemmas.Option.{slice_get_read}
use Rattle.dom_ast.specs.Form.{form, stmt_forms}
use Rattle.dom_checks.proofs.Arms.{as_branch, branch_first, branch_holds, branch_second, branch_seen, branch_third}
use Rattle.dom_checks.proofs.Walked.{stmts_fault, stmts_form, stmts_more}
use Rattle.dom_checks.proofs.statements.+statements.Goals as goal

pub block-returns-in-Err-clause-fault : goal.block-returns-in-Err-clause-fault
block-returns-in-Err-clause-fault t c =
    stmts_fault c.args.scope.now c.args.seen.now c.statements.seen c.statements.acts c.in-Err.fault c.args.stmts.now c.statements.stmt-index c.stmt-item.result (slice_get_read c.args.stmts.now (length c.args.stmts.now) c.statements.stmt-index c.stmt-item.result refl c.statements-test.true c.stmt-item.is)
    c.statements.invariant c.in-Err.ensures.fault

pub block-statements-preserved : goal.block-statements-preserved
block-statements-preserved t c =
    stmts_more c.args.scope.now c.args.seen.now c.statements.seen _ c.statements.acts _ c.in-Ok.act c.args.stmts.now c.statements.stmt-index c.stmt-item.result (slice_get_read c.args.stmts.now (length c.args.stmts.now) c.statements.stmt-index c.stmt-item.result refl c.statements-test.true c.stmt-item.is)
    c.statements.invariant c.in_ok-add_act-in-Ok.ensures.ok c.in-Ok.ensures.form c.in-Ok.ensures.holds c.in-Ok.ensures.seen

pub block-returns-clause-form : goal.block-returns-clause-form
block-returns-clause-form t c =
    stmts_form c.args.scope.now c.args.seen.now c.statements.seen c.statements.acts c.args.stmts.now c.statements.stmt-index (omega arith) c.statements.invariant

pub statement-returns-in-Err-clause-fault : goal.statement-returns-in-Err-clause-fault
statement-returns-in-Err-clause-fault t c =
    branch_first c.args.scope.now c.args.seen.now c.args.stmt.now (form c.in-If.test) (stmt_forms c.in-If.yes) (stmt_forms c.in-If.no) (as_branch c.args.stmt.now c.in-If.test c.in-If.yes c.in-If.no c.in-If.yes c.in-If.no c.in-If.is refl refl)
    c.in-Err.fault c.in-Err.ensures.fault

pub statement-returns-in-Err-block-clause-fault : goal.statement-returns-in-Err-block-clause-fault
statement-returns-in-Err-block-clause-fault t c =
    branch_second c.args.scope.now c.args.seen.now c.args.stmt.now (form c.in-If.test) (stmt_forms c.as_slice.result.now) (stmt_forms c.in-If.no) (as_branch c.args.stmt.now c.in-If.test c.in-If.yes c.in-If.no c.as_slice.result.now c.in-If.no c.in-If.is c.as_slice.ensures refl)
    _ c.in-Err-block.fault c.in-Ok.ensures.holds c.in-Ok.ensures.seen c.in-Err-block.ensures.fault

pub statement-returns-in-Err-block-2-clause-fault : goal.statement-returns-in-Err-block-2-clause-fault
statement-returns-in-Err-block-2-clause-fault t c =
    branch_third c.args.scope.now c.args.seen.now c.args.stmt.now (form c.in-If.test) (stmt_forms c.as_slice.result.now) (stmt_forms c.as_slice-in-Ok-block.result.now) (as_branch c.args.stmt.now c.in-If.test c.in-If.yes c.in-If.no c.as_slice.result.now c.as_slice-in-Ok-block.result.now c.in-If.is c.as_slice.ensures c.as_slice-in-Ok-block.ensures)
    _ _ c.in-Err-block-2.fault c.in-Ok.ensures.holds c.in-Ok.ensures.seen c.in-Ok-block.ensures.holds c.in-Ok-block.ensures.seen c.in-Err-block-2.ensures.fault

pub statement-returns-in-Ok-block-2-clause-holds : goal.statement-returns-in-Ok-block-2-clause-holds
statement-returns-in-Ok-block-2-clause-holds t c =
    branch_holds c.args.scope.now c.args.seen.now c.args.stmt.now (form c.in-If.test) (stmt_forms c.as_slice.result.now) (stmt_forms c.as_slice-in-Ok-block.result.now) (as_branch c.args.stmt.now c.in-If.test c.in-If.yes c.in-If.no c.as_slice.result.now c.as_slice-in-Ok-block.result.now c.in-If.is c.as_slice.ensures c.as_slice-in-Ok-block.ensures)
    _ _ c.in-Ok.ensures.holds c.in-Ok.ensures.seen c.in-Ok-block.ensures.holds c.in-Ok-block.ensures.seen c.in-Ok-block-2.ensures.holds

pub statement-returns-in-Ok-block-2-clause-seen : goal.statement-returns-in-Ok-block-2-clause-seen
statement-returns-in-Ok-block-2-clause-seen t c =
    branch_seen c.args.scope.now c.args.seen.now c.args.stmt.now (form c.in-If.test) (stmt_forms c.as_slice.result.now) (stmt_forms c.as_slice-in-Ok-block.result.now) (as_branch c.args.stmt.now c.in-If.test c.in-If.yes c.in-If.no c.as_slice.result.now c.as_slice-in-Ok-block.result.now c.in-If.is c.as_slice.ensures c.as_slice-in-Ok-block.ensures)
    _ _ _ c.in-Ok.ensures.seen c.in-Ok-block.ensures.seen c.in-Ok-block-2.ensures.seen
