use Rattle.std.proofs.Common.{take}
use Rattle.banzai_config.specs.Sets.{AreUnmarked}
use Rattle.banzai_config.proofs.numbers.unmark.Given as goal

abbrev pub invariant-loop-number : goal.invariant-loop-number
invariant-loop-number l = AreUnmarked l.fn.marks l.marks (take l.number-index l.numbers)
