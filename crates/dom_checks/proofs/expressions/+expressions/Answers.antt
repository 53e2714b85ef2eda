use Rattle.std.proofs.Common.{◌≡◌, length, refl, arith}
use Rattle.std.proofs.lemmas.Option.{slice_get_read}
use Rattle.std.proofs.lemmas.Result.{IfOk-weaker}
use Rattle.dom_ast.specs.declared.part.Part.{Part}
use Rattle.dom_ast.specs.Form.{form}
use Rattle.dom_ast.specs.inner.ExprOps.{op_forms}
use Rattle.dom_ast.specs.Resolved as tree
use Rattle.dom_ast.specs.inner.PartOps as part_ops
use Rattle.dom_checks.proofs.Arms.{always, as_chain, as_choice, chain_first, chain_form, chain_holds, chain_rest, chain_seen, choice_first, choice_holds, choice_second, choice_seen, choice_third, same_operand}
use Rattle.dom_checks.proofs.Walked.{args_fault, args_form, args_more, ops_fault, ops_form, ops_more}
use Rattle.dom_checks.proofs.expressions.+expressions.Goals as goal

pub arguments-returns-in-Err-clause-fault : goal.arguments-returns-in-Err-clause-fault
arguments-returns-in-Err-clause-fault t c =
    args_fault c.args.in_guard c.args.scope.now c.args.seen.now c.arguments.seen c.arguments.parts c.in-Err.fault c.args.args.now c.arguments.arg-index c.arg-item.result (slice_get_read c.args.args.now (length c.args.args.now) c.arguments.arg-index c.arg-item.result refl c.arguments-test.true c.arg-item.is)
    c.arguments.invariant c.in-Err.ensures.fault

pub arguments-arguments-preserved : goal.arguments-arguments-preserved
arguments-arguments-preserved t c =
    args_more c.args.in_guard c.args.scope.now c.args.seen.now c.arguments.seen _ c.arguments.parts _ c.in-Ok.part c.args.args.now c.arguments.arg-index c.arg-item.result (slice_get_read c.args.args.now (length c.args.args.now) c.arguments.arg-index c.arg-item.result refl c.arguments-test.true c.arg-item.is)
    c.arguments.invariant c.in_ok-add_argument-in-Ok.ensures.ok c.in-Ok.ensures.form c.in-Ok.ensures.holds c.in-Ok.ensures.seen

pub arguments-returns-clause-form : goal.arguments-returns-clause-form
arguments-returns-clause-form t c =
    args_form c.args.in_guard c.args.scope.now c.args.seen.now c.arguments.seen c.arguments.parts c.args.args.now c.arguments.arg-index (omega arith) c.arguments.invariant

pub expression-returns-in-Err-expression-2-clause-fault : goal.expression-returns-in-Err-expression-2-clause-fault
expression-returns-in-Err-expression-2-clause-fault t c =
    chain_first c.args.in_guard c.args.scope.now c.args.seen.now c.args.expr.now (form c.deref-in-Chain.result.now) (op_forms c.in-Chain.rest)
    (as_chain c.args.expr.now c.in-Chain.first c.in-Chain.rest c.in-Chain.rest c.deref-in-Chain.result.now c.in-Chain.is c.deref-in-Chain.ensures refl)
    c.in-Err-expression-2.fault c.in-Err-expression-2.ensures.fault

pub expression-returns-in-Err-operands-clause-fault : goal.expression-returns-in-Err-operands-clause-fault
expression-returns-in-Err-operands-clause-fault t c =
    chain_rest c.args.in_guard c.args.scope.now c.args.seen.now c.args.expr.now (form c.deref-in-Chain.result.now) (op_forms c.as_slice-in-Ok-expression-2.result.now)
    (as_chain c.args.expr.now c.in-Chain.first c.in-Chain.rest c.as_slice-in-Ok-expression-2.result.now c.deref-in-Chain.result.now c.in-Chain.is c.deref-in-Chain.ensures c.as_slice-in-Ok-expression-2.ensures)
    _ c.in-Err-operands.fault c.in-Ok-expression-2.ensures.holds c.in-Ok-expression-2.ensures.seen c.in-Err-operands.ensures.fault

pub expression-returns-in-Ok-operands-clause-holds : goal.expression-returns-in-Ok-operands-clause-holds
expression-returns-in-Ok-operands-clause-holds t c =
    always c.chained.result (chain_holds c.args.in_guard c.args.scope.now c.args.seen.now c.args.expr.now (form c.deref-in-Chain.result.now) (op_forms c.as_slice-in-Ok-expression-2.result.now)
    (as_chain c.args.expr.now c.in-Chain.first c.in-Chain.rest c.as_slice-in-Ok-expression-2.result.now c.deref-in-Chain.result.now c.in-Chain.is c.deref-in-Chain.ensures c.as_slice-in-Ok-expression-2.ensures)
    _ c.in-Ok-expression-2.ensures.holds c.in-Ok-expression-2.ensures.seen c.in-Ok-operands.ensures.holds)

pub expression-returns-in-Ok-operands-clause-seen : goal.expression-returns-in-Ok-operands-clause-seen
expression-returns-in-Ok-operands-clause-seen t c =
    always c.chained.result (chain_seen c.args.in_guard c.args.scope.now c.args.seen.now c.args.expr.now (form c.deref-in-Chain.result.now) (op_forms c.as_slice-in-Ok-expression-2.result.now)
    (as_chain c.args.expr.now c.in-Chain.first c.in-Chain.rest c.as_slice-in-Ok-expression-2.result.now c.deref-in-Chain.result.now c.in-Chain.is c.deref-in-Chain.ensures c.as_slice-in-Ok-expression-2.ensures)
    _ _ c.in-Ok-expression-2.ensures.seen c.in-Ok-operands.ensures.seen)

pub expression-returns-in-Ok-operands-clause-form : goal.expression-returns-in-Ok-operands-clause-form
expression-returns-in-Ok-operands-clause-form t c =
    IfOk-weaker c.chained.result (λ (p : Part). tree.form p ≡ tree.chain (tree.form c.in-Ok-expression-2.first) (part_ops.op_forms c.in-Ok-operands.rest)) _
    (λ p made. chain_form c.args.in_guard c.args.scope.now c.args.seen.now c.args.expr.now (form c.deref-in-Chain.result.now) (op_forms c.as_slice-in-Ok-expression-2.result.now)
    (as_chain c.args.expr.now c.in-Chain.first c.in-Chain.rest c.as_slice-in-Ok-expression-2.result.now c.deref-in-Chain.result.now c.in-Chain.is c.deref-in-Chain.ensures c.as_slice-in-Ok-expression-2.ensures)
    (tree.form p) (tree.form c.in-Ok-expression-2.first) (part_ops.op_forms c.in-Ok-operands.rest) made c.in-Ok-expression-2.ensures.form c.in-Ok-operands.ensures.form)
    c.chained.ensures.form

pub expression-returns-in-Err-expression-3-clause-fault : goal.expression-returns-in-Err-expression-3-clause-fault
expression-returns-in-Err-expression-3-clause-fault t c =
    choice_first c.args.in_guard c.args.scope.now c.args.seen.now c.args.expr.now (form c.deref-in-Cond.result.now) (form c.in-Cond.yes.value) (form c.in-Cond.no.value)
    (as_choice c.args.expr.now c.in-Cond.test c.in-Cond.yes c.in-Cond.no c.deref-in-Cond.result.now c.in-Cond.yes.value c.in-Cond.no.value c.in-Cond.is c.deref-in-Cond.ensures refl refl)
    c.in-Err-expression-3.fault c.in-Err-expression-3.ensures.fault

pub expression-returns-in-Err-expression-4-clause-fault : goal.expression-returns-in-Err-expression-4-clause-fault
expression-returns-in-Err-expression-4-clause-fault t c =
    choice_second c.args.in_guard c.args.scope.now c.args.seen.now c.args.expr.now (form c.deref-in-Cond.result.now) (form c.deref-in-Ok-expression-3.result.now) (form c.in-Cond.no.value)
    (as_choice c.args.expr.now c.in-Cond.test c.in-Cond.yes c.in-Cond.no c.deref-in-Cond.result.now c.deref-in-Ok-expression-3.result.now c.in-Cond.no.value c.in-Cond.is c.deref-in-Cond.ensures c.deref-in-Ok-expression-3.ensures refl)
    _ c.in-Err-expression-4.fault c.in-Ok-expression-3.ensures.holds c.in-Ok-expression-3.ensures.seen c.in-Err-expression-4.ensures.fault

pub expression-returns-in-Err-expression-5-clause-fault : goal.expression-returns-in-Err-expression-5-clause-fault
expression-returns-in-Err-expression-5-clause-fault t c =
    choice_third c.args.in_guard c.args.scope.now c.args.seen.now c.args.expr.now (form c.deref-in-Cond.result.now) (form c.deref-in-Ok-expression-3.result.now) (form c.deref-in-Ok-expression-4.result.now)
    (as_choice c.args.expr.now c.in-Cond.test c.in-Cond.yes c.in-Cond.no c.deref-in-Cond.result.now c.deref-in-Ok-expression-3.result.now c.deref-in-Ok-expression-4.result.now c.in-Cond.is c.deref-in-Cond.ensures c.deref-in-Ok-expression-3.ensures c.deref-in-Ok-expression-4.ensures)
    _ _ c.in-Err-expression-5.fault c.in-Ok-expression-3.ensures.holds c.in-Ok-expression-3.ensures.seen c.in-Ok-expression-4.ensures.holds c.in-Ok-expression-4.ensures.seen
    c.in-Err-expression-5.ensures.fault

pub expression-returns-in-Ok-expression-5-clause-holds : goal.expression-returns-in-Ok-expression-5-clause-holds
expression-returns-in-Ok-expression-5-clause-holds t c =
    always c.chosen.result (choice_holds c.args.in_guard c.args.scope.now c.args.seen.now c.args.expr.now (form c.deref-in-Cond.result.now) (form c.deref-in-Ok-expression-3.result.now) (form c.deref-in-Ok-expression-4.result.now)
    (as_choice c.args.expr.now c.in-Cond.test c.in-Cond.yes c.in-Cond.no c.deref-in-Cond.result.now c.deref-in-Ok-expression-3.result.now c.deref-in-Ok-expression-4.result.now c.in-Cond.is c.deref-in-Cond.ensures c.deref-in-Ok-expression-3.ensures c.deref-in-Ok-expression-4.ensures)
    _ _ c.in-Ok-expression-3.ensures.holds c.in-Ok-expression-3.ensures.seen c.in-Ok-expression-4.ensures.holds c.in-Ok-expression-4.ensures.seen c.in-Ok-expression-5.ensures.holds)

pub expression-returns-in-Ok-expression-5-clause-seen : goal.expression-returns-in-Ok-expression-5-clause-seen
expression-returns-in-Ok-expression-5-clause-seen t c =
    always c.chosen.result (choice_seen c.args.in_guard c.args.scope.now c.args.seen.now c.args.expr.now (form c.deref-in-Cond.result.now) (form c.deref-in-Ok-expression-3.result.now) (form c.deref-in-Ok-expression-4.result.now)
    (as_choice c.args.expr.now c.in-Cond.test c.in-Cond.yes c.in-Cond.no c.deref-in-Cond.result.now c.deref-in-Ok-expression-3.result.now c.deref-in-Ok-expression-4.result.now c.in-Cond.is c.deref-in-Cond.ensures c.deref-in-Ok-expression-3.ensures c.deref-in-Ok-expression-4.ensures)
    _ _ _ c.in-Ok-expression-3.ensures.seen c.in-Ok-expression-4.ensures.seen c.in-Ok-expression-5.ensures.seen)

pub operands-returns-in-Err-clause-fault : goal.operands-returns-in-Err-clause-fault
operands-returns-in-Err-clause-fault t c =
    ops_fault c.args.in_guard c.args.scope.now c.args.seen.now c.operands.seen c.operands.parts c.in-Err.fault c.args.rest.now c.operands.op-index c.operands-item.result (slice_get_read c.args.rest.now (length c.args.rest.now) c.operands.op-index c.operands-item.result refl c.operands-test.true c.operands-item.is)
    c.operands.invariant c.in-Err.ensures.fault

pub operands-operands-preserved : goal.operands-operands-preserved
operands-operands-preserved t c =
    ops_more c.args.in_guard c.args.scope.now c.args.seen.now c.operands.seen _ c.operands.parts _ (c.operands-item.result.0, c.in-Ok.part) c.args.rest.now c.operands.op-index c.operands-item.result (slice_get_read c.args.rest.now (length c.args.rest.now) c.operands.op-index c.operands-item.result refl c.operands-test.true c.operands-item.is)
    c.operands.invariant c.in_ok-add_operand-in-Ok.ensures.ok (same_operand c.operands-item.result.0 (tree.form c.in-Ok.part) _ c.in-Ok.ensures.form) c.in-Ok.ensures.holds c.in-Ok.ensures.seen

pub operands-returns-clause-form : goal.operands-returns-clause-form
operands-returns-clause-form t c =
    ops_form c.args.in_guard c.args.scope.now c.args.seen.now c.operands.seen c.operands.parts c.args.rest.now c.operands.op-index (omega arith) c.operands.invariant
