use Rattle.std.proofs.Common.{length}
use Rattle.plan_check.proofs.line.+after.Given as goal

abbrev pub decreases-after : goal.decreases-after
decreases-after l = length l.front.now
