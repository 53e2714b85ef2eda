use Rattle.config_text.proofs.Written.{stage_judged, stage_written}
use Rattle.config_text.proofs.writer.add_stages.Goals as goal

pub stages-preserved : goal.stages-preserved
stages-preserved c = (
  stage_written c.args.stages.now c.stages.k c.index-stages-k.result c.args.text.now.items c.stages.text.items c.add_stage.new.text.items c.stages-test.true c.index-stages-k.is c.stages.invariant.0 c.in_ok-add_stage.ensures.text,
  stage_judged c.args.stages.now c.stages.k c.index-stages-k.result c.stages-test.true c.index-stages-k.is c.stages.invariant.1 c.in_ok-add_stage.ensures.small,
)
