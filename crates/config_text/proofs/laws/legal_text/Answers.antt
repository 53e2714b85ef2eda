use Rattle.config_text.proofs.LegalTexts as lemmas
use Rattle.config_text.proofs.laws.legal_text.Goals as goal

pub returns : goal.returns
returns c = lemmas.legal_text
