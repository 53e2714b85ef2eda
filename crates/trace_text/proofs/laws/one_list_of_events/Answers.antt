use Rattle.trace_text.proofs.EventLines as lemma
use Rattle.trace_text.proofs.laws.one_list_of_events.Goals as goal

pub returns : goal.returns
returns c text depth few r s a b = lemma.one_reading depth few text r s a b
