use Rattle.std.proofs.Common.{rules, subst, sym}
use Rattle.codelets.specs.Leveled.{AreLeveled}
use Rattle.plan_check.proofs.Accepted.{is_plan}
use Rattle.plan_check.proofs.accepting.accept.Goals as goal

pub fault-requires-clause-leveled : goal.fault-requires-clause-leveled
fault-requires-clause-leveled g c = subst AreLeveled (sym c.list.ensures.same) c.args.codelets.now.leveled

pub returns-in-None-clause-plan : goal.returns-in-None-clause-plan
returns-in-None-clause-plan g c = is_plan g.row.DEPTH g.row.SL g.row.SF c.args.codelets.now.list c.args.plan.now c.requires (search rules)
