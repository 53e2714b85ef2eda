use Rattle.banzai_machine.proofs.Multiplied.{legal_with}
use Rattle.banzai_machine.proofs.laws.multipliers_do_no_harm.Goals as goal

pub returns : goal.returns
returns c = legal_with
