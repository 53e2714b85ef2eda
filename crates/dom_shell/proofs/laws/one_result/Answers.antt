use Rattle.dom_shell.proofs.Ended as lemma
use Rattle.dom_shell.proofs.laws.one_result.Goals as goal

pub returns : goal.returns
returns c hash taps files words s t a b x y = lemma.one_result hash taps files words s t a b x y
