use Rattle.plan_check.proofs.PlacedRuns.{acts}
use Rattle.plan_check.proofs.laws.placed_does_as_listed.Goals as goal

pub returns : goal.returns
returns c = λ s depth sl sf atoms places are plan legal hash state packet long. acts s c.args.codelets.now depth sl sf atoms places are plan legal hash state packet long
