use Rattle.std.proofs.Common.{◌≡◌, take}
use Rattle.stage_plan.proofs.chains.copied.Given as goal

abbrev pub invariant-loop-number : goal.invariant-loop-number
invariant-loop-number l = l.chain ≡ take l.number-index l.numbers
