use Rattle.dom_shell.proofs.Headline.{planned_moment, planned_serial}
use Rattle.dom_shell.proofs.laws.planned_is_serial.Goals as goal

pub returns-clause-run : goal.returns-clause-run
returns-clause-run c s text program parts well is hash cycles small full = planned_serial s text program parts well is hash small cycles full

pub returns-clause-moment : goal.returns-clause-moment
returns-clause-moment c s text program parts well is hash entries small full = planned_moment s text program parts well is hash small entries full
