use Rattle.pipeline_law.proofs.Orders.{runs-order}
use Rattle.pipeline_law.proofs.Theorems.{any_cycle}
use Rattle.pipeline_law.proofs.laws.orders_agree.Goals as goal

pub returns-clause-same : goal.returns-clause-same
returns-clause-same g c step all order m = runs-order step order all m

pub returns-clause-cycle : goal.returns-clause-cycle
returns-clause-cycle g c = any_cycle
