use Rattle.stage_plan.proofs.Longest.{best_among_more, all_taken}
use Rattle.stage_plan.proofs.chains.best_among.Goals as goal

pub uses-preserved : goal.uses-preserved
uses-preserved c = record {
  best = best_among_more c.args.codelets.now c.args.chains.now c.args.among.now c.uses.u-index c.args.level c.uses.best c.next_of-best.result c.uses-test.true c.next_of-best.ensures.value c.uses.invariant.best;
  within = c.next_of-best.ensures.within;
}

pub returns-clause-best : goal.returns-clause-best
returns-clause-best c = all_taken c.args.codelets.now c.args.chains.now c.args.among.now c.uses.u-index c.args.level c.uses.best c.uses-test.false c.uses.invariant.best
