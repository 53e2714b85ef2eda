use Rattle.std.proofs.lemmas.Result.{IfErr-weaker, on_ok_weaker}
use Rattle.dom_checks.proofs.Arms.{field_target_fault, field_target_holds}
use Rattle.dom_checks.proofs.statements.goal.Goals as goal

pub returns-in-Ok-clause-holds : goal.returns-in-Ok-clause-holds
returns-in-Ok-clause-holds c =
    on_ok_weaker c.field_goal.result
    (field_target_holds c.args.scope.now c.args.seen.now c.args.target.now c.in-Field.base c.as_bytes-in-Field.result.now c.in-Field.field_at c.in-Field.field c.as_bytes-in-Field-2.result.now c.args.at c.in-Ok.number c.in-Field.is c.as_bytes-in-Field.ensures c.as_bytes-in-Field-2.ensures c.in-Ok.ensures.number c.in-Ok.ensures.holds)
    c.field_goal.ensures.holds

pub returns-in-Ok-clause-fault : goal.returns-in-Ok-clause-fault
returns-in-Ok-clause-fault c =
    IfErr-weaker c.field_goal.result _ _
    (field_target_fault c.args.scope.now c.args.seen.now c.args.target.now c.in-Field.base c.as_bytes-in-Field.result.now c.in-Field.field_at c.in-Field.field c.as_bytes-in-Field-2.result.now c.args.at c.in-Ok.number c.in-Field.is c.as_bytes-in-Field.ensures c.as_bytes-in-Field-2.ensures c.in-Ok.ensures.number c.in-Ok.ensures.holds)
    c.field_goal.ensures.fault
