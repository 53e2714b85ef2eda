use Rattle.std.proofs.Common.{◌≡◌, map, take}
use Rattle.std.specs.Prelude.{slice_index}
use Rattle.banzai_config.specs.Parts.{stage_form}
use Rattle.container_plan.specs.Renamed.{stage_renamed}
use Rattle.container_plan.proofs.naming.named_stages.Given as goal

abbrev pub invariant-loop-stage : goal.invariant-loop-stage
invariant-loop-stage l = map stage_form l.new ≡ map (stage_renamed (slice_index l.names)) (map stage_form (take l.stage-index l.stages))
