use Rattle.std.proofs.Common.{sym}
use Rattle.dom_finding.specs.CommandForm.{command_in}
use Rattle.dom_shell.specs.Ends.{some_command}
use Rattle.dom_shell.proofs.call.answered.Goals as goal

pub returns-clause-end : goal.returns-clause-end
returns-clause-end g c = some_command (command_in c.in-Some.command) (sym c.in-Some.ensures) c.perform.ensures.end
