use Rattle.banzai_machine.proofs.LegalReads.{legal_reads}
use Rattle.banzai_machine.proofs.laws.legal_atoms_read_what_came_in.Goals as goal

pub returns : goal.returns
returns c = legal_reads
