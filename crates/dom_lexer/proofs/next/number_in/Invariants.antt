use Rattle.std.proofs.Common.{◌≡◌, take, min}
use Rattle.dom_lexer.specs.Bytes.{based}
use Rattle.dom_lexer.proofs.next.number_in.Given as goal

abbrev pub invariant-loop-byte : goal.invariant-loop-byte
invariant-loop-byte l = l.value ≡ min (based l.base (take l.byte-index l.text)) 4294967296
