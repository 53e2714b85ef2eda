use Rattle.dom_compile.proofs.OneFront.{one_front, one_parts}
use Rattle.dom_compile.proofs.laws.one_front_answer.Goals as goal

pub returns-clause-answer : goal.returns-clause-answer
returns-clause-answer c = one_front

pub returns-clause-parts : goal.returns-clause-parts
returns-clause-parts c = one_parts
