use Rattle.std.proofs.Common.{length}
use Rattle.stage_plan.proofs.chains.+before.Given as goal

abbrev pub decreases-before : goal.decreases-before
decreases-before l = length l.a.now
