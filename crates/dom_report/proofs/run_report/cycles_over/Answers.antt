use Rattle.std.proofs.Common.{◌+◌, ◌∙◌, [], ap, arith}
use Rattle.dom_report.proofs.Packets.{cycle_fits, cycle_more, cycles_all}
use Rattle.dom_report.proofs.run_report.cycles_over.Goals as goal

pub overflow_add-cycles-in-loop-k : goal.overflow_add-cycles-in-loop-k
overflow_add-cycles-in-loop-k c =
    omega (arith, cycle_fits c.args.trace.now c.loop-k.k c.loop-k.cycles (0, []) (omega arith) c.loop-k.invariant, c.gap.ensures, c.from.ensures, c.requires)

pub loop-k-preserved : goal.loop-k-preserved
loop-k-preserved c =
    ap (λ n. c.loop-k.cycles + (n + 1)) (c.from.ensures ∙ c.gap.ensures) ∙ cycle_more c.args.trace.now c.loop-k.k c.loop-k.cycles (0, []) (omega arith) c.loop-k.invariant

pub returns : goal.returns
returns c = cycles_all c.loop-k.cycles c.loop-k.k c.args.trace.now (omega arith) c.loop-k.invariant
