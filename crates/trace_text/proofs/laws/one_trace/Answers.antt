use Rattle.trace_text.proofs.Once as lemma
use Rattle.trace_text.proofs.laws.one_trace.Goals as goal

pub returns : goal.returns
returns c text fields depth r s a b = lemma.one_trace text fields depth r s a b
