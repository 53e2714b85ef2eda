use Rattle.dom_lexer.proofs.One.{one_list}
use Rattle.dom_lexer.proofs.laws.one_list.Goals as goal

pub returns : goal.returns
returns c = one_list
