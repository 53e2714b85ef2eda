use Rattle.codelets.specs.Flat.{linked_of}
use Rattle.codelets.proofs.FlatLinked.{flat_linked}
use Rattle.codelets.proofs.AllLaws.{codelet_laws}
use Rattle.codelets.proofs.laws.codelets_hold.Goals as goal

pub returns : goal.returns
returns c = codelet_laws (linked_of c.args.flat.now) (flat_linked c.args.flat.now)
