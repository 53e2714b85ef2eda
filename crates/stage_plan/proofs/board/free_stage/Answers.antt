use Rattle.std.proofs.Common.{◌∙◌, nat_lt, get_or, length, arith}
use Rattle.std.proofs.lemmas.Bool.{le-ltb}
use Rattle.stage_plan.proofs.Firsts.{first_fails}
use Rattle.stage_plan.proofs.board.free_stage.Goals as goal

pub stages-preserved : goal.stages-preserved
stages-preserved c = record {
  found = c.stages.invariant.found ∙ first_fails (λ s. nat_lt (get_or c.args.counts.now s 0) c.args.width) c.stages.at (length c.args.counts.now) c.stages-test.true (le-ltb _ _ c.if-counts-at.false);
  within = omega arith;
}
