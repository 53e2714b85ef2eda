use Rattle.std.proofs.Common.{length, ap, arith}
use Rattle.stage_plan.proofs.Levels.{item_at}
use Rattle.stage_plan.proofs.Longest.{low_level, low_uses, bests_more}
use Rattle.stage_plan.proofs.chains.chains_of.Goals as goal

pub chain_to-requires-clause-level : goal.chain_to-requires-clause-level
chain_to-requires-clause-level c = low_level c.args.codelets.now c.codelets.c-index c.c-item.result c.requires (item_at _ _ _ c.codelets-test.true c.c-item.is)

pub chain_to-requires-clause-within : goal.chain_to-requires-clause-within
chain_to-requires-clause-within c = low_uses c.args.codelets.now c.codelets.c-index (length c.args.codelets.now) c.c-item.result c.requires (item_at _ _ _ c.codelets-test.true c.c-item.is) (omega arith)

pub chain_to-requires-clause-chained : goal.chain_to-requires-clause-chained
chain_to-requires-clause-chained c = low_uses c.args.codelets.now c.codelets.c-index (length c.as_slice.result.now) c.c-item.result c.requires (item_at _ _ _ c.codelets-test.true c.c-item.is) (let n = c.codelets.invariant.count in let e = ap length c.as_slice.ensures in omega arith)

pub codelets-preserved : goal.codelets-preserved
codelets-preserved c = bests_more c.args.codelets.now c.codelets.chains c.push.new.self c.codelets.c-index c.c-item.result c.in_ok-chain.chain c.requires (item_at _ _ _ c.codelets-test.true c.c-item.is) c.codelets.invariant (rw c.as_slice.ensures at c.in_ok-chain.ensures) c.in_ok-push.ensures.ok
