use Rattle.std.proofs.Common.{[], ◌∷◌}
use Rattle.dom_finding.specs.Command.{files_named, run}
use Rattle.dom_finding.specs.Finding.{clocked}
use Rattle.dom_shell.specs.Ends.{call_of, sent_as}
use Rattle.dom_shell.proofs.Ended.{report_end, stop_end}
use Rattle.dom_shell.proofs.commands.run.run_on.Goals as goal

pub returns-in-Ok-clause-end : goal.returns-in-Ok-clause-end
returns-in-Ok-clause-end g c name taps =
    report_end (run c.args.target (files_named name c.args.trace.now)) (c.args.text.now ∷ [])
    (call_of (g.H.HashUnits.meaning c.args.hash.now) taps (g.F.Shelf.content c.args.shelf.now) (g.F.Shelf.faults c.args.shelf.now) (g.F.Shelf.faults c.prepare.new.shelf) (sent_as c.status_of.result (g.S.Sink.held c.args.sink.now) (g.S.Sink.held c.put_run_report-put.new.sink) (g.S.Sink.faults c.args.sink.now) (g.S.Sink.faults c.put_run_report-put.new.sink)))
    (clocked c.in-Ok.run'.machine.config c.in-Ok.run'.trace) c.put_run_report-put.result (c.in-Ok.ensures.found name) c.in-Ok.ensures.kept
    c.put_run_report-put.ensures.bytes c.put_run_report-put.ensures.cause c.status_of.ensures

pub returns-in-Err-clause-end : goal.returns-in-Err-clause-end
returns-in-Err-clause-end g c name taps =
    stop_end (run c.args.target (files_named name c.args.trace.now)) (c.args.text.now ∷ [])
    (call_of (g.H.HashUnits.meaning c.args.hash.now) taps (g.F.Shelf.content c.args.shelf.now) (g.F.Shelf.faults c.args.shelf.now) (g.F.Shelf.faults c.prepare.new.shelf) (sent_as c.stopped.result (g.S.Sink.held c.args.sink.now) (g.S.Sink.held c.stopped.new.sink) (g.S.Sink.faults c.args.sink.now) (g.S.Sink.faults c.stopped.new.sink)))
    c.in-Err.stop (c.in-Err.ensures.stop name) c.stopped.ensures
