use Rattle.plan_check.proofs.OnePlan as lemma
use Rattle.plan_check.proofs.laws.one_plan.Goals as goal

pub returns : goal.returns
returns c = lemma.one_plan
