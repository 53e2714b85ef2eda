use Rattle.std.proofs.Common.{subst, sym}
use Rattle.codelets.specs.Leveled.{AreLeveled}
use Rattle.stage_plan.proofs.Kept.{ok_plan}
use Rattle.stage_plan.proofs.planning.plan.Goals as goal

pub plan_all-requires-clause-leveled : goal.plan_all-requires-clause-leveled
plan_all-requires-clause-leveled g c = subst AreLeveled (sym c.list.ensures.same) c.args.codelets.now.leveled

pub returns-clause-kept : goal.returns-clause-kept
returns-clause-kept g c = ok_plan g.row.DEPTH g.row.SL g.row.SF c.args.codelets.now.list c.list.result.now c.plan_all.result c.list.ensures.same c.args.codelets.now.leveled c.plan_all.ensures.schedule
