use Rattle.std.proofs.Common.{◌≡◌, take, min}
use Rattle.config_text.specs.Reading.{value_after}
use Rattle.config_text.proofs.numbers.value_of.Given as goal

abbrev pub invariant-loop-b : goal.invariant-loop-b
invariant-loop-b l = l.value ≡ min (value_after 0 (take l.b-index l.text)) 4294967296
