use Rattle.std.proofs.Common.{◌∙◌, ◌≡◌, max, ap, rules}
use Rattle.stage_plan.specs.Schedule.{stage_at}
use Rattle.stage_plan.proofs.Greatest.{last_more}
use Rattle.stage_plan.proofs.board.last_stage.Goals as goal

pub loop-u-preserved : goal.loop-u-preserved
loop-u-preserved c =
    let greater : c.max-last.result ≡ max c.loop-u.last c.stage_of.result = search rules in
    last_more (stage_at c.args.placed.now) c.args.uses.now c.loop-u.u-index c.loop-u.last c.max-last.result c.loop-u-test.true c.loop-u.invariant (greater ∙ ap (max c.loop-u.last) c.stage_of.ensures)
