use Rattle.banzai_machine.proofs.InPlaceLemmas.{stage_in_place}
use Rattle.banzai_machine.proofs.laws.a_stage_may_act_in_place.Goals as goal

pub returns : goal.returns
returns g c number stage before none apart = stage_in_place (g.H.HashUnits.meaning c.args.hash.now) number stage before.words before.arrays before.touches none apart
