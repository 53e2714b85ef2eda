use Rattle.dom_shell.proofs.SharedRuns.{runs_alike}
use Rattle.dom_shell.proofs.laws.upgraded_runs_alike.Goals as goal

pub returns : goal.returns
returns c = runs_alike
