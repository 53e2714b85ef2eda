use Rattle.std.proofs.Common.{◌≡◌, ◌-◌, ◌≤◌, nat_lt, get_or, length}
use Rattle.stage_plan.specs.Schedule.{first_from}
use Rattle.stage_plan.proofs.board.free_stage.Given as goal

abbrev pub invariant-stages : goal.invariant-stages
invariant-stages l = record {
  found : first_from (λ s. nat_lt (get_or l.counts s 0) l.width) l.from (length l.counts - l.from) ≡ first_from (λ s. nat_lt (get_or l.counts s 0) l.width) l.at (length l.counts - l.at);
  within : l.at ≤ length l.counts;
}

abbrev pub decreases-stages : goal.decreases-stages
decreases-stages l = length l.counts - l.at
