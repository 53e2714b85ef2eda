use Rattle.std.proofs.lemmas.Result.{IfErr-weaker, on_ok_weaker}
use Rattle.dom_ast.specs.Form.{form}
use Rattle.dom_checks.proofs.Arms.{element_holds, element_place, element_second}
use Rattle.dom_checks.proofs.expressions.element.Goals as goal

pub returns-in-Ok-place-clause-fault : goal.returns-in-Ok-place-clause-fault
returns-in-Ok-place-clause-fault c =
    IfErr-weaker c.indexed.result _ _
    (element_second c.args.in_guard c.args.scope.now c.args.seen.now c.args.at c.args.name.now (form c.args.index.now) c.in-Ok.ensures.holds c.in-Ok.array c.in-Ok-place.index c.in-Ok.ensures.array c.in-Ok-place.ensures.place c.in-Ok-place.ensures.holds)
    c.indexed.ensures.fault

pub returns-in-Ok-place-clause-holds : goal.returns-in-Ok-place-clause-holds
returns-in-Ok-place-clause-holds c =
    on_ok_weaker c.indexed.result
    (element_holds c.args.in_guard c.args.scope.now c.args.seen.now c.args.at c.args.name.now (form c.args.index.now) c.in-Ok.ensures.holds c.in-Ok.array c.in-Ok-place.index c.in-Ok.ensures.array c.in-Ok-place.ensures.place c.in-Ok-place.ensures.holds)
    c.indexed.ensures.holds

pub returns-in-Err-place-clause-fault : goal.returns-in-Err-place-clause-fault
returns-in-Err-place-clause-fault c =
    element_place c.args.in_guard c.args.scope.now c.args.seen.now c.args.at c.args.name.now (form c.args.index.now) c.in-Ok.ensures.holds c.in-Err-place.fault c.in-Err-place.ensures.fault
