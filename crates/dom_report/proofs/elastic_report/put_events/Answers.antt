use Rattle.std.proofs.Common.{◌+◌, ◌<◌, ◌≡◌, ◌∙◌, arith, Err, Ok, get_or, length, refl, take}
use Rattle.trace_text.specs.declared.events.Event.TheVariants.{Enter}
use Rattle.dom_report.specs.ElasticEvents.{packets_in}
use Rattle.dom_report.specs.ElasticReport.{after_events, first_moment}
use Rattle.dom_report.proofs.ElasticRuns.{moment_more, step_at, told_more, told_stop}
use Rattle.dom_report.proofs.elastic_report.put_events.Goals as goal

pub returns-in_default-clause-part : goal.returns-in_default-clause-part
returns-in_default-clause-part g c =
    let hash = g.H.HashUnits.meaning c.args.hash.now in
    let p = c.args.elastic.now.config in
    let first = first_moment (packets_in c.args.trace.now) in
    let event = get_or c.args.events.now c.loop-k.k Enter in
    let inside : c.loop-k.k < length c.args.events.now = omega (arith, c.loop-k-test.true) in
    let step =
    step_at hash g.row.CAP c.args.trace.now c.loop-k.elastic c.put_event.new.elastic c.loop-k.passed c.put_event.new.passed (c.loop-k.k + 1) event (g.S.Sink.held c.loop-k.sink) (g.S.Sink.held c.put_event.new.sink) (Err c.in_default.field-0) p
    c.loop-k.invariant.config c.in_default.ensures.step (after_events hash g.row.CAP p first (take c.loop-k.k c.args.events.now)) c.loop-k.invariant.at in
    told_stop hash g.row.CAP p first c.args.events.now c.loop-k.k event Enter inside refl (g.S.Sink.held c.args.sink.now) (g.S.Sink.held c.loop-k.sink) (g.S.Sink.held c.put_event.new.sink) c.loop-k.invariant.put step.1

pub loop-k-preserved : goal.loop-k-preserved
loop-k-preserved g c =
    let hash = g.H.HashUnits.meaning c.args.hash.now in
    let p = c.args.elastic.now.config in
    let first = first_moment (packets_in c.args.trace.now) in
    let event = get_or c.args.events.now c.loop-k.k Enter in
    let inside : c.loop-k.k < length c.args.events.now = omega (arith, c.loop-k-test.true) in
    let step =
    step_at hash g.row.CAP c.args.trace.now c.loop-k.elastic c.put_event.new.elastic c.loop-k.passed c.put_event.new.passed (c.loop-k.k + 1) event (g.S.Sink.held c.loop-k.sink) (g.S.Sink.held c.put_event.new.sink) (Ok c.in-Ok.field-0) p
    c.loop-k.invariant.config c.in-Ok.ensures.step (after_events hash g.row.CAP p first (take c.loop-k.k c.args.events.now)) c.loop-k.invariant.at in
    record {
      at = rw (← moment_more hash g.row.CAP p first c.args.events.now c.loop-k.k event Enter inside refl) step.0;
      put = told_more hash g.row.CAP p first c.args.events.now c.loop-k.k event Enter inside refl (g.S.Sink.held c.args.sink.now) (g.S.Sink.held c.loop-k.sink) (g.S.Sink.held c.put_event.new.sink) c.loop-k.invariant.put step.1;
      count = c.in-Ok.ensures.cause.kept ∙ c.loop-k.invariant.count;
      config = c.in-Ok.ensures.config ∙ c.loop-k.invariant.config;
      same = c.in-Ok.ensures.same ∙ c.loop-k.invariant.same;
      entering = c.in-Ok.ensures.entering ∙ c.loop-k.invariant.entering;
      leaving = c.in-Ok.ensures.leaving ∙ c.loop-k.invariant.leaving;
      few = omega (arith, c.in-Ok.ensures.left, c.loop-k.invariant.few);
    }
