use Rattle.banzai_machine.proofs.Moments.{moment}
use Rattle.banzai_machine.proofs.laws.each_moment_is_alone.Goals as goal

pub returns : goal.returns
returns g c p entries owns = moment (g.H.HashUnits.meaning c.args.hash.now) p owns entries
