use Rattle.std.proofs.Common.{◌≡◌, ℕ, ◌+◌, ◌<◌, length, drop, map}
use Rattle.std.specs.Prelude.{slice_index}
use Rattle.banzai_config.specs.Parts.{stage_form}
use Rattle.container_plan.specs.Shared.{last_from}
use Rattle.container_plan.proofs.spans.mark_read.Given as goal

abbrev pub invariant-loop-k : goal.invariant-loop-k
invariant-loop-k l = record {
  size : length l.marks ≡ length l.fn.marks;
  last : (v : ℕ) → v < length l.fn.marks → last_from 1 (map stage_form l.stages) v (slice_index l.fn.marks v) ≡ last_from (l.k + 1) (drop l.k (map stage_form l.stages)) v (slice_index l.marks v);
}
