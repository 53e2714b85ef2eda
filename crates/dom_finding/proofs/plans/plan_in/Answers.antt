use Rattle.dom_finding.proofs.Stopped.{plan_stops}
use Rattle.dom_finding.proofs.plans.plan_in.Goals as goal

pub returns-in-Err-clause-stop : goal.returns-in-Err-clause-stop
returns-in-Err-clause-stop c = plan_stops c.args.depth c.args.codelets.now.list c.args.text.now c.in-Err.fault c.stop_of_plan.result c.stop_of_plan.ensures c.in-Err.ensures.refused
