use Rattle.banzai_config.specs.Targets.{target_named}
use Rattle.banzai_config.proofs.target.Target.named.Goals as goal

pub returns : goal.returns
unfolding target_named
returns c = c.first_named.ensures
