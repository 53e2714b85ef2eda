use Rattle.dom_lexer.proofs.Found.{found_at}
use Rattle.dom_lexer.proofs.next.next_at.Goals as goal

pub returns : goal.returns
returns c = found_at c.args.text.now c.first_piece.result c.requires.some c.first_piece.ensures
