use Rattle.banzai_machine.proofs.AnyOrder.{any_order}
use Rattle.banzai_machine.proofs.laws.any_order_is_the_cycle.Goals as goal

pub returns : goal.returns
returns g c p = any_order (g.H.HashUnits.meaning c.args.hash.now) p
