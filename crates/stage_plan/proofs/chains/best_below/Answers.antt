use Rattle.stage_plan.proofs.Longest.{best_below_more}
use Rattle.stage_plan.proofs.chains.best_below.Goals as goal

pub codelets-preserved : goal.codelets-preserved
codelets-preserved c = record {
  best = best_below_more c.args.codelets.now c.args.chains.now c.codelets.u c.args.level c.codelets.best c.next_of-best.result c.next_of-best.ensures.value c.codelets.invariant.best;
  within = c.next_of-best.ensures.within;
}
