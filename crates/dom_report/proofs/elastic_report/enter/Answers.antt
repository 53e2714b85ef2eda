use Rattle.std.proofs.Common.{◌≡◌, ◌<◌, ◌∙◌, arith, length, map, rules}
use Rattle.trace_text.specs.Trace.{words_at}
use Rattle.elastic_machine.specs.Ready.{enter_waits}
use Rattle.dom_report.proofs.ElasticRuns.{and_ok, came_in, enter_told_is, told_nothing, told_wait, waits_still}
use Rattle.dom_report.proofs.elastic_report.enter.Goals as goal

pub returns-in-Ok-clause-step : goal.returns-in-Ok-clause-step
returns-in-Ok-clause-step g c hash m at_m =
    let old = c.args.elastic.now in
    let inside : c.args.passed.now.entered < length c.args.trace.now = omega (arith, c.if-passed-packets.false, c.packets.ensures) in
    let packet : c.words.result.now ≡ words_at c.args.trace.now c.args.passed.now.entered = c.words.ensures ∙ c.fill.ensures in
    let waits = enter_waits g.row.CAP (map length old.queues) in (
      came_in hash g.row.CAP c.args.trace.now old c.enter.new.self c.in-Ok.ensures.config c.args.passed.now m at_m c.words.result.now inside packet c.in-Ok.ensures.answer
          (c.in-Ok.ensures.stands hash m.happened at_m.stands),
      rw (enter_told_is hash g.row.CAP c.args.trace.now old c.enter.new.self c.in-Ok.ensures.config c.args.passed.now m at_m c.words.result.now inside packet)
          (told_nothing (g.S.Sink.held c.args.sink.now) c.args.number waits c.in-Ok.ensures.answer),
    )

pub returns-in-Err-clause-step : goal.returns-in-Err-clause-step
returns-in-Err-clause-step g c hash m at_m =
    let old = c.args.elastic.now in
    let inside : c.args.passed.now.entered < length c.args.trace.now = omega (arith, c.if-passed-packets.false, c.packets.ensures) in
    let packet : c.words.result.now ≡ words_at c.args.trace.now c.args.passed.now.entered = c.words.ensures ∙ c.fill.ensures in
    let waits = enter_waits g.row.CAP (map length old.queues) in (
      and_ok c.wait-in-Err.result
          (waits_still hash g.row.CAP c.args.trace.now old c.enter.new.self c.in-Err.ensures.config c.args.passed.now m at_m c.words.result.now inside packet c.in-Err.field-0 c.in-Err.ensures.answer
          (c.in-Err.ensures.stands hash m.happened at_m.stands)),
      rw (enter_told_is hash g.row.CAP c.args.trace.now old c.enter.new.self c.in-Err.ensures.config c.args.passed.now m at_m c.words.result.now inside packet)
          (told_wait c.wait-in-Err.result (g.S.Sink.held c.args.sink.now) (g.S.Sink.held c.wait-in-Err.new.sink) c.args.number waits c.in-Err.field-0 c.in-Err.ensures.answer c.wait-in-Err.ensures.bytes),
    )
