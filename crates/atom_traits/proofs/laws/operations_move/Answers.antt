use Rattle.atom_traits.proofs.OperationLaws.{operation_moves}
use Rattle.atom_traits.proofs.laws.operations_move.Goals as goal

pub returns : goal.returns
returns c = λ hash f r words after same op e. operation_moves f r words after same hash op e
