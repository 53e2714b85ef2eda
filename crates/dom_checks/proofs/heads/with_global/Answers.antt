use Rattle.std.proofs.Common.{◌<◌, subst}
use Rattle.dom_ast.specs.declared.program.Head.TheVariants as head
use Rattle.dom_checks.specs.Answers.{IsFirst}
use Rattle.dom_checks.specs.Walk.{head_checks}
use Rattle.dom_checks.proofs.HeadSteps.{global_holds, global_name, global_rest, handed_on}
use Rattle.dom_checks.proofs.heads.with_global.Goals as goal

pub returns-in_err-check_name-clause-fault : goal.returns-in_err-check_name-clause-fault
returns-in_err-check_name-clause-fault c =
    handed_on c.from_residual.result c.in_err-check_name.field-0.0 (λ f. IsFirst f (head_checks c.args.scope (head.Global c.args.at c.args.name.now c.args.brackets.now c.args.init.now))) c.from_residual.ensures.1
    (global_name c.args.scope c.args.at c.args.name.now c.args.brackets.now c.args.init.now c.in_err-check_name.field-0.0 c.in_err-check_name.ensures.fault)

pub returns-in_err-array-clause-fault : goal.returns-in_err-array-clause-fault
returns-in_err-array-clause-fault c =
    let room = subst (λ n. n < 32) c.arrays_count.ensures.number c.if-arrays_count-ge32.false in
    handed_on c.from_residual-in_err-array.result c.in_err-array.field-0.0 (λ f. IsFirst f (head_checks c.args.scope (head.Global c.args.at c.args.name.now c.args.brackets.now c.args.init.now))) c.from_residual-in_err-array.ensures.1
    (global_rest c.args.scope c.args.at c.args.name.now c.args.brackets.now c.args.init.now c.in_err-array.field-0.0 c.in_ok-check_name.ensures.holds room c.in_err-array.ensures.fault)

pub returns-clause-holds : goal.returns-clause-holds
returns-clause-holds c =
    let room = subst (λ n. n < 32) c.arrays_count.ensures.number c.if-arrays_count-ge32.false in
    global_holds c.args.scope c.args.at c.args.name.now c.args.brackets.now c.args.init.now c.in_ok-check_name.ensures.holds room c.in_ok-array.ensures.holds
