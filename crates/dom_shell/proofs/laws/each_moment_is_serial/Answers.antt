use Rattle.dom_shell.proofs.Headline.{compiled_moment}
use Rattle.dom_shell.proofs.laws.each_moment_is_serial.Goals as goal

pub returns : goal.returns
returns c s text program parts well answer hash entries small full = compiled_moment s text program parts well answer hash small entries full
