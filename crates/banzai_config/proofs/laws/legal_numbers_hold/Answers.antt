use Rattle.banzai_config.proofs.Staged.{legal_depth, legal_numbers, legal_outputs}
use Rattle.banzai_config.proofs.laws.legal_numbers_hold.Goals as goal

pub returns-clause-numbers : goal.returns-clause-numbers
returns-clause-numbers c = legal_numbers

pub returns-clause-depth : goal.returns-clause-depth
returns-clause-depth c = legal_depth

pub returns-clause-outputs : goal.returns-clause-outputs
returns-clause-outputs c = legal_outputs
