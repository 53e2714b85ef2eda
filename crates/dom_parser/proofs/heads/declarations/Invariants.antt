use Rattle.std.proofs.Common.{◌-◌, length}
use Rattle.dom_parser.proofs.SoFar.{DeclsSoFar}
use Rattle.dom_parser.proofs.heads.declarations.Given as goal

abbrev pub invariant-declarations : goal.invariant-declarations
invariant-declarations l = DeclsSoFar l.tokens l.at l.next l.fn.so_far l.heads

abbrev pub decreases-declarations : goal.decreases-declarations
decreases-declarations l = length l.tokens - l.next
