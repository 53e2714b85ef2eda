use Rattle.dom_compile.proofs.Runs.{acts_as, runs_as}
use Rattle.dom_compile.proofs.laws.compiled_is_the_program.Goals as goal

pub returns-clause-one : goal.returns-clause-one
returns-clause-one c = acts_as

pub returns-clause-serial : goal.returns-clause-serial
returns-clause-serial c = runs_as
