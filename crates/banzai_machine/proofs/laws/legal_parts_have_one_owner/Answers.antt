use Rattle.banzai_machine.proofs.LegalOwns.{legal_arrays, legal_containers}
use Rattle.banzai_machine.proofs.laws.legal_parts_have_one_owner.Goals as goal

pub returns-clause-arrays : goal.returns-clause-arrays
returns-clause-arrays c = legal_arrays

pub returns-clause-containers : goal.returns-clause-containers
returns-clause-containers c = legal_containers
