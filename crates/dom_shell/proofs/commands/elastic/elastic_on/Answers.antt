use Rattle.std.proofs.Common.{[], ◌∷◌}
use Rattle.dom_finding.specs.Command.{configs_named, elastic}
use Rattle.dom_finding.specs.Finding.{queued}
use Rattle.dom_shell.specs.Ends.{call_of, sent_as}
use Rattle.dom_shell.proofs.Ended.{report_end, stop_end}
use Rattle.dom_shell.proofs.commands.elastic.elastic_on.Goals as goal

pub returns-in-Ok-clause-end : goal.returns-in-Ok-clause-end
returns-in-Ok-clause-end g c name text taps spelled =
    report_end (elastic (configs_named name c.args.trace.now) c.args.events.now) (text ∷ [])
    (call_of (g.H.HashUnits.meaning c.args.hash.now) taps (g.F.Shelf.content c.args.shelf.now) (g.F.Shelf.faults c.args.shelf.now) (g.F.Shelf.faults c.prepare.new.shelf) (sent_as c.status_of.result (g.S.Sink.held c.args.sink.now) (g.S.Sink.held c.put_elastic_report.new.sink) (g.S.Sink.faults c.args.sink.now) (g.S.Sink.faults c.put_elastic_report.new.sink)))
    (queued c.in-Ok.run'.elastic.config c.in-Ok.run'.trace c.in-Ok.run'.events.items) c.put_elastic_report.result (c.in-Ok.ensures.found name text spelled) c.in-Ok.ensures.kept
    (rw c.as_slice.ensures.value at c.put_elastic_report.ensures.bytes) c.put_elastic_report.ensures.cause c.status_of.ensures

pub returns-in-Err-clause-end : goal.returns-in-Err-clause-end
returns-in-Err-clause-end g c name text taps spelled =
    stop_end (elastic (configs_named name c.args.trace.now) c.args.events.now) (text ∷ [])
    (call_of (g.H.HashUnits.meaning c.args.hash.now) taps (g.F.Shelf.content c.args.shelf.now) (g.F.Shelf.faults c.args.shelf.now) (g.F.Shelf.faults c.prepare.new.shelf) (sent_as c.stopped.result (g.S.Sink.held c.args.sink.now) (g.S.Sink.held c.stopped.new.sink) (g.S.Sink.faults c.args.sink.now) (g.S.Sink.faults c.stopped.new.sink)))
    c.in-Err.stop (c.in-Err.ensures.stop name text spelled) c.stopped.ensures
