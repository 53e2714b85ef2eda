use Rattle.std.proofs.Common.{◌≡◌, ◌-◌, ◌≤◌, ◌==◌, get_or, length}
use Rattle.stage_plan.specs.Schedule.{first_from}
use Rattle.stage_plan.proofs.board.full_at.Given as goal

abbrev pub invariant-stages : goal.invariant-stages
invariant-stages l = record {
  found : first_from (λ s. get_or l.counts s 0 == l.width) 1 (length l.counts - 1) ≡ first_from (λ s. get_or l.counts s 0 == l.width) l.at (length l.counts - l.at);
  within : 1 ≤ l.at;
}

abbrev pub decreases-stages : goal.decreases-stages
decreases-stages l = length l.counts - l.at
