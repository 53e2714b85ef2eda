use Rattle.std.proofs.Common.{◌≡◌, take}
use Rattle.container_plan.proofs.sharing.narrowed.Given as goal

abbrev pub invariant-loop-k : goal.invariant-loop-k
invariant-loop-k l = l.words.items ≡ take l.k l.numbers
