use Rattle.dom_parser.proofs.DeclaredNames.{named_by}
use Rattle.dom_parser.proofs.laws.declared_names.Goals as goal

pub returns : goal.returns
returns c = named_by
