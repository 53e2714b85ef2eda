use Rattle.dom_report.proofs.Packets.{packets_of-entries}
use Rattle.dom_shell.proofs.Headline.{compiled_serial}
use Rattle.dom_shell.proofs.laws.run_is_serial.Goals as goal

pub returns-clause-run : goal.returns-clause-run
returns-clause-run c s text program parts well answer hash cycles small full = compiled_serial s text program parts well answer hash small cycles full

pub returns-clause-trace : goal.returns-clause-trace
returns-clause-trace c = packets_of-entries
