use Rattle.stage_plan.proofs.Kept.{is_plan}
use Rattle.plan_check.proofs.Accepted.{is_accepted, is_hand}
use Rattle.plan_check.proofs.laws.schedule_is_accepted.Goals as goal

pub returns-clause-hand : goal.returns-clause-hand
returns-clause-hand c = λ depth sl sf places small e. is_hand depth sl sf c.args.codelets.now.list places small (is_plan depth sl sf c.args.codelets.now.list places c.args.codelets.now.leveled e)

pub returns-clause-accepted : goal.returns-clause-accepted
returns-clause-accepted c = λ depth sl sf places e. is_accepted depth sl sf c.args.codelets.now.list places (is_plan depth sl sf c.args.codelets.now.list places c.args.codelets.now.leveled e)
