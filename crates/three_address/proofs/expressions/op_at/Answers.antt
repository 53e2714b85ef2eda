use Rattle.three_address.proofs.Chains.{nodes_at}
use Rattle.three_address.proofs.expressions.op_at.Goals as goal

pub returns-clause-nodes : goal.returns-clause-nodes
returns-clause-nodes c = nodes_at c.args.k c.args.ops.now _ c.requires c.index-ops-k.is
