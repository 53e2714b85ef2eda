use Rattle.container_plan.proofs.Apart.{shared_number}
use Rattle.container_plan.proofs.Lawful.{legal_one}
use Rattle.container_plan.proofs.laws.shared_is_least.Goals as goal

pub returns : goal.returns
returns c s p legal version = shared_number p (legal_one s p legal version)
