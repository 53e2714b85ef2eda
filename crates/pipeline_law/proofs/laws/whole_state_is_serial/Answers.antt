use Rattle.pipeline_law.proofs.Theorems.{whole_state}
use Rattle.pipeline_law.proofs.laws.whole_state_is_serial.Goals as goal

pub returns : goal.returns
returns g c p start entries views = whole_state p start views entries
