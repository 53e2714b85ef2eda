use Rattle.dom_parser.proofs.OneFault.{one_answer}
use Rattle.dom_parser.proofs.laws.one_fault.Goals as goal

pub returns : goal.returns
returns c = one_answer
