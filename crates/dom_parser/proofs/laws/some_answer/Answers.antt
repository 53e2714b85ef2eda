use Rattle.dom_parser.proofs.SomeAnswer.{some_answer}
use Rattle.dom_parser.proofs.laws.some_answer.Goals as goal

pub returns : goal.returns
returns c = some_answer
