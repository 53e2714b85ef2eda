use Rattle.std.proofs.Common.{length, ◌-◌, ◌≡◌, ◌≤◌, drop}
use Rattle.dom_lexer.specs.inner.Next.{close_len}
use Rattle.dom_lexer.proofs.SoFar.{plus}
use Rattle.dom_lexer.proofs.next.close.Given as goal

abbrev pub invariant-bytes : goal.invariant-bytes
invariant-bytes l = (close_len l.text ≡ plus l.at (close_len (drop l.at l.text))) × (l.at ≤ length l.text)

abbrev pub decreases-bytes : goal.decreases-bytes
decreases-bytes l = length l.text - l.at
