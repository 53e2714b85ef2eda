use Rattle.dom_parser.proofs.DeclaredNames.{kind_of_name}
use Rattle.dom_parser.proofs.laws.names.Goals as goal

pub returns : goal.returns
returns c = kind_of_name
