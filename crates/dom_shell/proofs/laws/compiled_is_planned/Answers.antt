use Rattle.dom_shell.proofs.Headline.{compiled_planned}
use Rattle.dom_shell.proofs.laws.compiled_is_planned.Goals as goal

pub returns : goal.returns
returns c = compiled_planned
