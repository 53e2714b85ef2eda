use Rattle.compile_law.proofs.Lawful.{legal}
use Rattle.compile_law.proofs.laws.compiled_is_legal.Goals as goal

pub returns : goal.returns
returns g c = λ depth stateless stateful multiplies atoms places are plan inside named arrays_named.
    legal c.args.codelets.now depth stateless stateful atoms places are plan g.T.AtomTemplate.fits g.T.AtomTemplate.CONST_BITS multiplies g.met.T.AtomTemplate.within g.met.T.AtomTemplate.own inside named arrays_named
