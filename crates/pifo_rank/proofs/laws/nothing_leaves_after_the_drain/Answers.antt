use Rattle.pifo_rank.proofs.Drained.{nothing_leaves}
use Rattle.pifo_rank.proofs.laws.nothing_leaves_after_the_drain.Goals as goal

pub returns : goal.returns
returns g c p entries more owns = nothing_leaves (g.H.HashUnits.meaning c.args.hash.now) p owns entries more
