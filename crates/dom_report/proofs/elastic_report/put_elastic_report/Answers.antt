use Rattle.dom_report.proofs.ElasticRuns.{events_stop, heading_stop, report_put}
use Rattle.dom_report.proofs.elastic_report.put_elastic_report.Goals as goal

pub returns-in_default-clause-bytes : goal.returns-in_default-clause-bytes
returns-in_default-clause-bytes g c =
    heading_stop (g.H.HashUnits.meaning c.args.hash.now) g.row.CAP c.args.elastic.now.config c.args.trace.now c.args.events.now (g.S.Sink.held c.args.sink.now) (g.S.Sink.held c.head.new.sink)
    (rw c.requires.ready.fields at c.in_default.ensures.bytes)

pub returns-in_default-put_events-clause-bytes : goal.returns-in_default-put_events-clause-bytes
returns-in_default-put_events-clause-bytes g c =
    events_stop (g.H.HashUnits.meaning c.args.hash.now) g.row.CAP c.args.elastic.now.config c.args.trace.now c.args.events.now (g.S.Sink.held c.args.sink.now) (g.S.Sink.held c.head.new.sink)
    (g.S.Sink.held c.put_events.new.sink) (rw c.requires.ready.fields at c.in-Ok.ensures.bytes) c.in_default-put_events.ensures.part

pub returns-clause-bytes : goal.returns-clause-bytes
returns-clause-bytes g c =
    report_put (g.H.HashUnits.meaning c.args.hash.now) g.row.CAP c.args.elastic.now.config c.args.trace.now c.args.events.now c.put_events.new.elastic c.in-Ok-put_events.passed c.in-Ok-put_events.ensures.passed
    (g.S.Sink.held c.args.sink.now) (g.S.Sink.held c.head.new.sink) (g.S.Sink.held c.put_events.new.sink) (g.S.Sink.held c.put_end.new.sink) c.put_end.result
    (rw c.requires.ready.fields at c.in-Ok.ensures.bytes) c.in-Ok-put_events.ensures.put c.put_end.ensures.bytes
