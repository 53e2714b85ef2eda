use Rattle.std.proofs.Common.{◌∙◌, ◌==◌, get_or, length, arith}
use Rattle.stage_plan.proofs.Firsts.{first_fails, eqb_false}
use Rattle.stage_plan.proofs.board.full_at.Goals as goal

pub stages-preserved : goal.stages-preserved
stages-preserved c = record {
  found = c.stages.invariant.found ∙ first_fails (λ s. get_or c.args.counts.now s 0 == c.args.width) c.stages.at (length c.args.counts.now) c.stages-test.true (eqb_false _ _ c.if-counts-at.false);
  within = omega arith;
}
