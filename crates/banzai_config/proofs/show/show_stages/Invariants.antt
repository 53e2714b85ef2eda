use Rattle.std.proofs.Common.{◌≡◌, map, take}
use Rattle.banzai_config.specs.Fitted.{fitted_form}
use Rattle.banzai_config.specs.Parts.{stage_form}
use Rattle.banzai_config.proofs.show.show_stages.Given as goal

abbrev pub invariant-loop-stage : goal.invariant-loop-stage
invariant-loop-stage g l = map stage_form l.shown ≡ map (fitted_form g.T.AtomTemplate.trees_of) (take l.stage-index l.stages)
