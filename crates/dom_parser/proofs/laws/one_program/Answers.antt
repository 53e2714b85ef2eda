use Rattle.dom_parser.proofs.OneProgram.{one_tree}
use Rattle.dom_parser.proofs.laws.one_program.Goals as goal

pub returns : goal.returns
returns c = one_tree
