use Rattle.dom_shell.proofs.Headline.{compiled_queues}
use Rattle.dom_shell.proofs.laws.queues_are_serial.Goals as goal

pub returns : goal.returns
returns c s text program parts well answer hash most packets events small full = compiled_queues s text program parts well answer hash small most packets events full
