use Rattle.std.proofs.Common.{◌≡◌, ℕ, ◌<◌, length, nat_lt, if◌then◌else◌}
use Rattle.std.specs.Prelude.{slice_index}
use Rattle.container_plan.proofs.spans.mark_fields.Given as goal

abbrev pub invariant-loop-v : goal.invariant-loop-v
invariant-loop-v l = record {
  size : length l.marks ≡ length l.fn.marks;
  kept : (v : ℕ) → v < length l.fn.marks → slice_index l.marks v ≡ (if nat_lt v l.v then 0 else slice_index l.fn.marks v);
}
