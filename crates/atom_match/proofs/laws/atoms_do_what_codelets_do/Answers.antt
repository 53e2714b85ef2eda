use Rattle.atom_match.proofs.Right.{atom_right}
use Rattle.atom_match.proofs.laws.atoms_do_what_codelets_do.Goals as goal

pub returns : goal.returns
returns c = atom_right c.args.codelets.now
