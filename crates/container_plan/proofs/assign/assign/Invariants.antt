use Rattle.std.proofs.Common.{◌≡◌, length}
use Rattle.std.specs.Prelude.{slice_index}
use Rattle.container_plan.specs.State.{IsState, taken_before}
use Rattle.container_plan.proofs.assign.assign.Given as goal

abbrev pub invariant-loop-k : goal.invariant-loop-k
invariant-loop-k l = record {
  names : length l.names.items ≡ length l.made;
  state : IsState (slice_index l.made) (slice_index l.last) l.names.items l.until.items (taken_before l.made l.last l.k);
}
