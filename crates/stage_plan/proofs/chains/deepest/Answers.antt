use Rattle.std.proofs.Common.{rules}
use Rattle.stage_plan.proofs.Longest.{deepest_more}
use Rattle.stage_plan.proofs.chains.deepest.Goals as goal

pub codelets-preserved : goal.codelets-preserved
codelets-preserved c = deepest_more c.args.codelets.now c.codelets.c-index c.c-item.result c.codelets.level c.max-level.result c.codelets-test.true c.c-item.is c.codelets.invariant (search rules)
