use Rattle.atom_traits.proofs.OperationLaws.{same_operation}
use Rattle.atom_traits.proofs.laws.operations_agree.Goals as goal

pub returns : goal.returns
returns c = λ hash r words after same op e. same_operation r words after same hash op e
