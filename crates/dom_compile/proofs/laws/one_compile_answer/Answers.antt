use Rattle.dom_compile.proofs.OneAnswer as lemma
use Rattle.dom_compile.proofs.laws.one_compile_answer.Goals as goal

pub returns : goal.returns
returns c s text a b x y = lemma.one_compile_answer s text a b x y
