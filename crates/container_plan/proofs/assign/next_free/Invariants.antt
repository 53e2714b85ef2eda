use Rattle.std.proofs.Common.{ℕ, ◌<◌, ◌≤◌}
use Rattle.std.specs.Prelude.{slice_index}
use Rattle.container_plan.proofs.assign.next_free.Given as goal

abbrev pub invariant-loop-c : goal.invariant-loop-c
invariant-loop-c l = (d : ℕ) → l.from ≤ d → d < l.c → l.k ≤ slice_index l.until d
