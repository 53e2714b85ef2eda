use Rattle.std.proofs.Common.{◌≡◌, length, map, take}
use Rattle.banzai_config.specs.Fitted.{fitted_form}
use Rattle.banzai_config.specs.Parts.{stage_form}
use Rattle.banzai_config.proofs.build.fit_stages.Given as goal

abbrev pub invariant-loop-k : goal.invariant-loop-k
invariant-loop-k g l = record {
  stages : map (fitted_form g.T.AtomTemplate.trees_of) l.fitted ≡ map stage_form (take l.k l.stages);
  size : length l.fitted ≡ l.k;
}
