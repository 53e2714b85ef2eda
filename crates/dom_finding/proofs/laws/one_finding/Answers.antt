use Rattle.dom_finding.proofs.OneFinding as lemma
use Rattle.dom_finding.proofs.laws.one_finding.Goals as goal

pub returns : goal.returns
returns c files command f g a b = lemma.one_finding files command _ f g a b
