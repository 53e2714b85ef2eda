use Rattle.three_address.proofs.Becoming.{all_found, all_one}
use Rattle.three_address.proofs.laws.lists_are_their_statements.Goals as goal

pub returns-clause-there : goal.returns-clause-there
returns-clause-there c = all_found

pub returns-clause-one : goal.returns-clause-one
returns-clause-one c = all_one
