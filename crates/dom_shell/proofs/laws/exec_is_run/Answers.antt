use Rattle.dom_shell.proofs.ExecRuns.{exec_answers, run_answers}
use Rattle.dom_shell.proofs.laws.exec_is_run.Goals as goal

pub returns-clause-exec : goal.returns-clause-exec
returns-clause-exec c = exec_answers

pub returns-clause-run : goal.returns-clause-run
returns-clause-run c = run_answers
