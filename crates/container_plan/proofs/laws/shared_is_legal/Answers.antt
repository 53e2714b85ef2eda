use Rattle.banzai_config.specs.Checked.{shape_with}
use Rattle.container_plan.proofs.Legal.{legal_shared}
use Rattle.container_plan.proofs.laws.shared_is_legal.Goals as goal

pub returns : goal.returns
returns g c depth stateless stateful multiplies p legal version =
    legal_shared (shape_with g.T.AtomTemplate.fits g.T.AtomTemplate.CONST_BITS depth stateless stateful multiplies) g.met.T.AtomTemplate.blind p legal version
