use Rattle.std.proofs.Common.{◌≡◌, ◌≤◌, count_by, take}
use Rattle.stage_plan.specs.Schedule.{stands_at}
use Rattle.plan_check.proofs.accepting.count.Given as goal

abbrev pub invariant-places : goal.invariant-places
invariant-places l = record {
  counted : l.count ≡ count_by (stands_at l.kind l.stage) (take l.place-index l.places);
  few : l.count ≤ l.place-index;
}
