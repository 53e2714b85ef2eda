use Rattle.plan_check.proofs.PlacedRuns.{runs}
use Rattle.plan_check.proofs.laws.placed_is_serial.Goals as goal

pub returns : goal.returns
returns c = λ s depth sl sf atoms places are plan legal. runs s c.args.codelets.now depth sl sf atoms places are plan legal
