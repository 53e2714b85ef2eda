use Rattle.pifo_rank.proofs.Least.{one_fewer, serves_first}
use Rattle.pifo_rank.proofs.laws.the_first_of_the_least_rank_is_served.Goals as goal

pub returns-clause-serves : goal.returns-clause-serves
returns-clause-serves c entries = serves_first entries

pub returns-clause-count : goal.returns-clause-count
returns-clause-count c entries = one_fewer entries
