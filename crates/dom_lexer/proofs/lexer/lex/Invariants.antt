use Rattle.std.proofs.Common.{length, ◌-◌}
use Rattle.dom_lexer.proofs.SoFar.{SoFar}
use Rattle.dom_lexer.proofs.lexer.lex.Given as goal

abbrev pub invariant-pieces : goal.invariant-pieces
invariant-pieces l = SoFar l.text l.at l.items

abbrev pub decreases-pieces : goal.decreases-pieces
decreases-pieces l = length l.text - l.at
