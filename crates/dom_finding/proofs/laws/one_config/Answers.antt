use Rattle.dom_finding.proofs.OneConfig as lemma
use Rattle.dom_finding.proofs.laws.one_config.Goals as goal

pub returns : goal.returns
returns c text r s a b = lemma.one_config text r s a b
