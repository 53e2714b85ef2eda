use Rattle.std.proofs.Common.{◌≡◌, take}
use Rattle.banzai_machine.specs.Busy.{busy_from}
use Rattle.banzai_machine.proofs.make.busy.Given as goal

abbrev pub invariant-loop-k : goal.invariant-loop-k
invariant-loop-k g l = l.all.items ≡ busy_from 0 (take l.k l.config.stages)
