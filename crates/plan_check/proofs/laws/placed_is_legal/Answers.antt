use Rattle.std.proofs.Common.{refl}
use Rattle.banzai_config.specs.Checked.{shape_with}
use Rattle.compile_law.specs.Compiled.{compiled_parts}
use Rattle.compile_law.proofs.Lawful.{legal}
use Rattle.container_plan.proofs.Legal.{legal_shared}
use Rattle.plan_check.proofs.laws.placed_is_legal.Goals as goal

pub returns : goal.returns
returns g c = λ depth sl sf multiplies atoms places are plan inside fields arrays.
    legal_shared (shape_with g.T.AtomTemplate.fits g.T.AtomTemplate.CONST_BITS depth sl sf multiplies) g.met.T.AtomTemplate.blind (compiled_parts c.args.codelets.now depth atoms places)
    (legal c.args.codelets.now depth sl sf atoms places are plan g.T.AtomTemplate.fits g.T.AtomTemplate.CONST_BITS multiplies g.met.T.AtomTemplate.within g.met.T.AtomTemplate.own inside fields arrays)
    refl
