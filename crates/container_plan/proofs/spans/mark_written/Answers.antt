use Rattle.std.proofs.Common.{◌≡◌, ℕ, ◌+◌, ◌-◌, suc, arith, ◌∙◌, ap, drop, map}
use Rattle.banzai_config.specs.Named.{stage_targets}
use Rattle.banzai_config.specs.Parts.{stage_form}
use Rattle.container_plan.specs.Shared.{made_from}
use Rattle.container_plan.proofs.Marking.{made_step, length-marked}
use Rattle.container_plan.proofs.spans.mark_written.Goals as goal

pub loop-passed-preserved : goal.loop-passed-preserved
loop-passed-preserved c =
    let k : ℕ = c.loop-passed.passed - 1 in
    let more : c.loop-passed.passed ≡ suc k = omega arith in
    rw c.mark_targets.ensures (record {
      within = omega arith;
      size = length-marked (k + 1) (stage_targets (stage_form c.index-stages-passed.result)) c.loop-passed.marks ∙ c.loop-passed.invariant.size;
      made = λ v h. made_step c.args.stages.now k c.index-stages-passed.result c.loop-passed.marks v c.index-stages-passed.is (omega arith) (omega (arith, c.loop-passed.invariant.size, h))
          (c.loop-passed.invariant.made v h ∙ ap (λ (z : ℕ). made_from (z + 1) (drop z (map stage_form c.args.stages.now)) v) more);
    })
