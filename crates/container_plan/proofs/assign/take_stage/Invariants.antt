use Rattle.std.proofs.Common.{◌≡◌, ℕ, ◌<◌, ◌≤◌, List, length, fold}
use Rattle.std.specs.Prelude.{slice_index}
use Rattle.container_plan.specs.Spans.{Taken, take_next}
use Rattle.container_plan.specs.State.{IsState, made_at}
use Rattle.container_plan.proofs.assign.take_stage.Given as goal

abbrev pub invariant-loop-v : goal.invariant-loop-v
invariant-loop-v l = record {
  within : l.free ≤ length l.until.items;
  passed : (c : ℕ) → c < l.free → l.k ≤ slice_index l.until.items c;
  names : length l.names ≡ length l.made;
  state : (done : List Taken) → IsState (slice_index l.made) (slice_index l.last) l.fn.names l.fn.until.items done
      → IsState (slice_index l.made) (slice_index l.last) l.names l.until.items (fold (take_next (slice_index l.made) (slice_index l.last)) done (made_at l.made l.k l.v));
}
