use Rattle.plan_check.proofs.Accepted.{is_accepted, is_hand, is_plan}
use Rattle.plan_check.proofs.laws.accepted_is_plan.Goals as goal

pub returns-clause-plan : goal.returns-clause-plan
returns-clause-plan c = is_plan

pub returns-clause-hand : goal.returns-clause-hand
returns-clause-hand c = is_hand

pub returns-clause-accepted : goal.returns-clause-accepted
returns-clause-accepted c = is_accepted
