use Rattle.banzai_config.proofs.Staged.{legal_stages}
use Rattle.banzai_config.proofs.laws.legal_stages_hold.Goals as goal

pub returns : goal.returns
returns c = legal_stages
