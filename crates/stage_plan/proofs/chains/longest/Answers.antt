use Rattle.std.proofs.Common.{arith}
use Rattle.stage_plan.proofs.Longest.{no_best, ok_first}
use Rattle.stage_plan.proofs.chains.longest.Goals as goal

pub unreachable-requires : goal.unreachable-requires
unreachable-requires c =
    no_best c.args.codelets.now c.as_slice.result.now (let l = c.requires.level in let s = c.requires.some in omega arith) (rw c.requires.level at c.in-None.ensures.best)

pub returns : goal.returns
returns c = ok_first c.args.codelets.now c.in_ok-chains.chains c.in-Some.p c.copy_at.result c.requires.leveled c.in_ok-chains.ensures (rw (c.as_slice.ensures, c.requires.level) at c.in-Some.ensures.best) (rw c.as_slice-in-Some.ensures at c.copy_at.ensures)
