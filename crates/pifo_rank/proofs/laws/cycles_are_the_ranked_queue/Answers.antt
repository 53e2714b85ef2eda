use Rattle.pifo_rank.proofs.Standing.{cycles_are}
use Rattle.pifo_rank.proofs.laws.cycles_are_the_ranked_queue.Goals as goal

pub returns : goal.returns
returns g c m rank room entries serving is = cycles_are (g.H.HashUnits.meaning c.args.hash.now) m rank room entries serving is
