use Rattle.codelets.proofs.FlatLinked.{reach_by_walks}
use Rattle.codelets.proofs.laws.reach_is_by_walks.Goals as goal

pub returns : goal.returns
returns c = reach_by_walks c.args.flat.now
