use Rattle.pifo_rank.proofs.Standing.{cycles_alone}
use Rattle.pifo_rank.proofs.laws.cycles_rank_what_is_alone.Goals as goal

pub returns : goal.returns
returns g c m rank room entries serving is owns = cycles_alone (g.H.HashUnits.meaning c.args.hash.now) m rank room entries serving is owns
