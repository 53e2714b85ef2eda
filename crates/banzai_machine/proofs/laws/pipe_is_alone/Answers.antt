use Rattle.banzai_machine.proofs.Moments.{pipe_alone}
use Rattle.banzai_machine.proofs.laws.pipe_is_alone.Goals as goal

pub returns : goal.returns
returns g c p entries owns = pipe_alone (g.H.HashUnits.meaning c.args.hash.now) p owns entries
