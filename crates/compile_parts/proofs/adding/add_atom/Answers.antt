use Rattle.compile_parts.proofs.Fits.{operator_first}
use Rattle.compile_parts.proofs.adding.add_atom.Goals as goal

pub first_value-requires : goal.first_value-requires
first_value-requires g c = operator_first g.T.AtomTemplate.trees_of c.args.codelets.now c.args.codelet.now c.args.atom.now c.in-Stateless.op c.in-Stateless.is c.requires
