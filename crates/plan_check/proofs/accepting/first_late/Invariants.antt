use Rattle.std.proofs.Common.{◌≡◌, None, find, nat_le, take}
use Rattle.stage_plan.specs.Schedule.{stage_at}
use Rattle.plan_check.proofs.accepting.first_late.Given as goal

abbrev pub invariant-uses : goal.invariant-uses
invariant-uses l = find (λ u. nat_le l.stage (stage_at l.places u)) (take l.u-index l.uses) ≡ None
