use Rattle.std.proofs.Common.{◌+◌, arith, ◌∙◌}
use Rattle.banzai_config.specs.Parts.{stage_form}
use Rattle.banzai_config.specs.Stages.{stage_reads}
use Rattle.container_plan.proofs.Marking.{last_step, length-marked}
use Rattle.container_plan.proofs.spans.mark_read.Goals as goal

pub loop-k-preserved : goal.loop-k-preserved
loop-k-preserved c =
    rw c.mark_reads.ensures (record {
      size = length-marked (c.loop-k.k + 1) (stage_reads (stage_form c.index-stages-k.result)) c.loop-k.marks ∙ c.loop-k.invariant.size;
      last = λ v h. c.loop-k.invariant.last v h ∙ last_step c.args.stages.now c.loop-k.k c.index-stages-k.result c.loop-k.marks v c.index-stages-k.is c.loop-k-test.true (omega (arith, c.loop-k.invariant.size, h));
    })
