use Rattle.dom_compile.proofs.Runs.{placed_acts, placed_runs}
use Rattle.dom_compile.proofs.laws.placed_is_the_program.Goals as goal

pub returns-clause-one : goal.returns-clause-one
returns-clause-one c = placed_acts

pub returns-clause-serial : goal.returns-clause-serial
returns-clause-serial c = placed_runs
