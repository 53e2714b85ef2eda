use Rattle.banzai_config.proofs.TargetNames.{target_by_name}
use Rattle.banzai_config.proofs.laws.targets_have_own_names.Goals as goal

pub returns : goal.returns
returns c = target_by_name
