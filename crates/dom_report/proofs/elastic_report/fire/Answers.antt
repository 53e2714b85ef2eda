use Rattle.std.proofs.Common.{◌-◌, length, map}
use Rattle.elastic_machine.specs.Ready.{fire_waits}
use Rattle.dom_report.proofs.ElasticRuns.{and_ok, fire_is, fired, told_nothing, told_wait}
use Rattle.dom_report.proofs.elastic_report.fire.Goals as goal

pub returns-in-Ok-clause-step : goal.returns-in-Ok-clause-step
returns-in-Ok-clause-step g c packets passed m at_m =
    let hash = g.H.HashUnits.meaning c.args.hash.now in
    let old = c.args.elastic.now in
    let waits = fire_waits g.row.CAP (c.args.stage - 1) (map length old.queues) in (
      fired hash g.row.CAP packets old c.fire.new.self c.in-Ok.ensures.config passed m at_m c.args.stage (c.in-Ok.ensures.stands m.happened at_m.stands),
      rw (fire_is hash g.row.CAP packets old c.fire.new.self c.in-Ok.ensures.config passed m at_m (c.args.stage - 1))
          (told_nothing (g.S.Sink.held c.args.sink.now) c.args.number waits c.in-Ok.ensures.answer),
    )

pub returns-in-Err-clause-step : goal.returns-in-Err-clause-step
returns-in-Err-clause-step g c packets passed m at_m =
    let hash = g.H.HashUnits.meaning c.args.hash.now in
    let old = c.args.elastic.now in
    let waits = fire_waits g.row.CAP (c.args.stage - 1) (map length old.queues) in (
      and_ok c.wait.result
          (fired hash g.row.CAP packets old c.fire.new.self c.in-Err.ensures.config passed m at_m c.args.stage (c.in-Err.ensures.stands m.happened at_m.stands)),
      rw (fire_is hash g.row.CAP packets old c.fire.new.self c.in-Err.ensures.config passed m at_m (c.args.stage - 1))
          (told_wait c.wait.result (g.S.Sink.held c.args.sink.now) (g.S.Sink.held c.wait.new.sink) c.args.number waits c.in-Err.field-0 c.in-Err.ensures.answer c.wait.ensures.bytes),
    )
