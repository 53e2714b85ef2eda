use Rattle.stage_plan.proofs.Longest.{chain_short, one_as_long, one_first}
use Rattle.stage_plan.proofs.laws.longest_chain.Goals as goal

pub returns-clause-none_longer : goal.returns-clause-none_longer
returns-clause-none_longer c = λ cs l w h. chain_short cs w l h

pub returns-clause-one_as_long : goal.returns-clause-one_as_long
returns-clause-one_as_long c = one_as_long

pub returns-clause-one_first : goal.returns-clause-one_first
returns-clause-one_first c = one_first
