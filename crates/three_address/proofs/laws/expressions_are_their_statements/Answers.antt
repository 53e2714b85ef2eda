use Rattle.three_address.proofs.Becoming.{found, one}
use Rattle.three_address.proofs.laws.expressions_are_their_statements.Goals as goal

pub returns-clause-there : goal.returns-clause-there
returns-clause-there c = λ fields modulus values before p. found fields values before modulus p

pub returns-clause-one : goal.returns-clause-one
returns-clause-one c = one
