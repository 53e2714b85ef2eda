use Rattle.dom_compile.proofs.OneProgram as lemma
use Rattle.dom_compile.proofs.laws.one_program.Goals as goal

pub returns : goal.returns
returns c text r s a b = lemma.one_program text r s a b
