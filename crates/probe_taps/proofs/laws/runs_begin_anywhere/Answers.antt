use Rattle.probe_taps.proofs.Runs.{begins}
use Rattle.probe_taps.proofs.laws.runs_begin_anywhere.Goals as goal

pub returns : goal.returns
returns g c earlier t is at = begins (g.H.HashUnits.meaning c.args.hash.now) earlier t is at
