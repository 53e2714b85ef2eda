use Rattle.config_text.proofs.OneFault.{bad_no_text, one_bad}
use Rattle.config_text.proofs.laws.one_fault.Goals as goal

pub returns-clause-none : goal.returns-clause-none
returns-clause-none c = bad_no_text

pub returns-clause-one : goal.returns-clause-one
returns-clause-one c = one_bad
