use Rattle.probe_taps.proofs.Runs.{numbers_fold}
use Rattle.probe_taps.proofs.laws.numbers_are_folds.Goals as goal

pub returns : goal.returns
returns g c p earlier later taps = numbers_fold (g.H.HashUnits.meaning c.args.hash.now) p earlier later taps
