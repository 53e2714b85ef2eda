use Rattle.std.proofs.Common.{arith, ap, length, ◌∙◌, ◌++◌}
use Rattle.banzai_machine.specs.Pipe.{drain}
use Rattle.trace_text.specs.Trace.{entries}
use Rattle.dom_report.specs.SelfRun.{drawn}
use Rattle.dom_report.proofs.DrivenLines.{stands_after}
use Rattle.dom_report.proofs.Summaries.{drawn_cycles, drawn_each, summary_is}
use Rattle.dom_report.proofs.selfrun.run_drawn.Goals as goal

pub clock-requires-clause-each : goal.clock-requires-clause-each
clock-requires-clause-each g c k d inside = drawn_each (length c.words.result.now) c.args.seed c.args.count k d inside ∙ ap length c.words.ensures ∙ c.requires.entering

pub clock-requires-clause-cycles : goal.clock-requires-clause-cycles
clock-requires-clause-cycles g c = omega (arith, drawn_cycles (length c.words.result.now) c.args.seed c.args.count, c.requires.stages)

pub unreachable-requires : goal.unreachable-requires
unreachable-requires g c = omega (arith, c.in_default.ensures.cause.failed)

pub returns-clause-stands : goal.returns-clause-stands
returns-clause-stands g c =
    let width = ap length c.words.ensures ∙ c.requires.entering in
    stands_after (g.H.HashUnits.meaning c.args.hash.now) c.args.machine.now c.requires.start c.clock.new.machine
    (entries (drawn (length c.args.machine.now.config.fields) c.args.seed c.args.count) ++ drain c.args.machine.now.config) (rw width at c.in-Ok.ensures.clocked.machine_is)

pub returns-clause-summary : goal.returns-clause-summary
returns-clause-summary g c =
    let width = ap length c.words.ensures ∙ c.requires.entering in
    summary_is (g.H.HashUnits.meaning c.args.hash.now) c.args.machine.now c.clock.new.machine c.args.seed c.args.count c.in-Ok.cycles c.clock.new.action c.sum_words.result c.requires.start
    (rw width at c.in-Ok.ensures.clocked.machine_is) (rw width at c.in-Ok.ensures.clocked.action_is) (rw width at c.in-Ok.ensures.cycles) c.sum_words.ensures
