use Rattle.config_text.proofs.OneReading.{good_lines, known_target, one_pair}
use Rattle.config_text.proofs.laws.one_answer.Goals as goal

pub returns-clause-pair : goal.returns-clause-pair
returns-clause-pair c = one_pair

pub returns-clause-target : goal.returns-clause-target
returns-clause-target c = known_target

pub returns-clause-lines : goal.returns-clause-lines
returns-clause-lines c = good_lines
