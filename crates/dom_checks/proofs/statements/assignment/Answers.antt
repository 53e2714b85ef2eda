use Rattle.dom_ast.specs.Form.{form, target_form}
use Rattle.dom_checks.proofs.Arms.{assign_first, assign_holds, assign_second}
use Rattle.dom_checks.proofs.statements.assignment.Goals as goal

pub returns-in-Ok-goal-clause-holds : goal.returns-in-Ok-goal-clause-holds
returns-in-Ok-goal-clause-holds c =
    assign_holds c.args.scope.now c.args.seen.now c.args.at (target_form c.args.target.now) (form c.args.value.now) _ c.in-Ok.ensures.holds c.in-Ok.ensures.seen c.in-Ok-goal.ensures.holds

pub returns-in-Err-goal-clause-fault : goal.returns-in-Err-goal-clause-fault
returns-in-Err-goal-clause-fault c =
    assign_second c.args.scope.now c.args.seen.now c.args.at (target_form c.args.target.now) (form c.args.value.now) _ c.in-Err-goal.fault c.in-Ok.ensures.holds c.in-Ok.ensures.seen c.in-Err-goal.ensures.fault

pub returns-in-Err-clause-fault : goal.returns-in-Err-clause-fault
returns-in-Err-clause-fault c =
    assign_first c.args.scope.now c.args.seen.now c.args.at (target_form c.args.target.now) (form c.args.value.now) c.in-Err.fault c.in-Err.ensures.fault
