use Rattle.dom_shell.proofs.Headline.{compiled_idle}
use Rattle.dom_shell.proofs.laws.ranked_is_serial.Goals as goal

pub returns : goal.returns
returns c s text program parts well answer hash entries more small full = compiled_idle s text program parts well answer hash small entries more full
