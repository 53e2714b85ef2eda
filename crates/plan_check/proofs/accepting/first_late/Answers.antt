use Rattle.std.proofs.Common.{nat_le, get_or}
use Rattle.stage_plan.specs.Schedule.{stage_at}
use Rattle.plan_check.proofs.Accepted.{later, not_later}
use Rattle.plan_check.proofs.Firsts.{found_first, found_more, item_there}
use Rattle.std.proofs.Common.{sym}
use Rattle.plan_check.proofs.accepting.first_late.Goals as goal

pub returns-then-stage-stage_of-clause-value : goal.returns-then-stage-stage_of-clause-value
returns-then-stage-stage_of-clause-value c =
    sym (found_first (λ u. nat_le c.args.stage (stage_at c.args.places.now u)) c.args.uses.now c.uses.u-index (get_or c.args.uses.now c.uses.u-index 0) c.uses.invariant
    (item_there c.args.uses.now c.uses.u-index c.uses-test.true)
    (not_later c.args.stage c.stage_of.result (stage_at c.args.places.now (get_or c.args.uses.now c.uses.u-index 0)) c.if-stage-stage_of.true c.stage_of.ensures))

pub uses-preserved : goal.uses-preserved
uses-preserved c =
    found_more (λ u. nat_le c.args.stage (stage_at c.args.places.now u)) c.args.uses.now c.uses.u-index (get_or c.args.uses.now c.uses.u-index 0) c.uses.invariant
    (item_there c.args.uses.now c.uses.u-index c.uses-test.true)
    (later c.args.stage c.stage_of.result (stage_at c.args.places.now (get_or c.args.uses.now c.uses.u-index 0)) c.if-stage-stage_of.false c.stage_of.ensures)
