use Rattle.stage_plan.proofs.Kept.{is_plan}
use Rattle.stage_plan.proofs.laws.schedule_is_plan.Goals as goal

pub returns : goal.returns
returns c = λ depth sl sf cs placed l e. is_plan depth sl sf cs placed l e
