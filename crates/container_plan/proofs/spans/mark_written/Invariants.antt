use Rattle.std.proofs.Common.{◌≡◌, ℕ, ◌+◌, ◌<◌, ◌≤◌, length, drop, map}
use Rattle.std.specs.Prelude.{slice_index}
use Rattle.banzai_config.specs.Parts.{stage_form}
use Rattle.container_plan.specs.Shared.{made_from}
use Rattle.container_plan.proofs.spans.mark_written.Given as goal

abbrev pub invariant-loop-passed : goal.invariant-loop-passed
invariant-loop-passed l = record {
  within : l.passed ≤ length l.stages;
  size : length l.marks ≡ length l.fn.marks;
  made : (v : ℕ) → v < length l.fn.marks → slice_index l.marks v ≡ made_from (l.passed + 1) (drop l.passed (map stage_form l.stages)) v;
}

abbrev pub decreases-loop-passed : goal.decreases-loop-passed
decreases-loop-passed l = l.passed
