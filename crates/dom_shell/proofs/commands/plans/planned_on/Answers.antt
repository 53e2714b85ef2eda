use Rattle.std.proofs.Common.{[], ◌∷◌}
use Rattle.dom_finding.specs.Command.{planned}
use Rattle.dom_finding.specs.Finding.{written}
use Rattle.dom_shell.specs.Ends.{call_of, sent_as}
use Rattle.dom_shell.proofs.Ended.{report_end, stop_end}
use Rattle.dom_shell.proofs.commands.plans.planned_on.Goals as goal

pub returns-in-Ok-clause-end : goal.returns-in-Ok-clause-end
returns-in-Ok-clause-end g c name hash taps =
    report_end (planned c.args.target name c.args.plan.now) (c.args.text.now ∷ [])
    (call_of hash taps (g.F.Shelf.content c.args.shelf.now) (g.F.Shelf.faults c.args.shelf.now) (g.F.Shelf.faults c.planned.new.shelf) (sent_as c.status_of.result (g.S.Sink.held c.args.sink.now) (g.S.Sink.held c.put_text.new.sink) (g.S.Sink.faults c.args.sink.now) (g.S.Sink.faults c.put_text.new.sink)))
    (written c.in-Ok.written.items) c.put_text.result (c.in-Ok.ensures.found name) c.in-Ok.ensures.kept (rw c.as_slice.ensures.value at c.put_text.ensures.bytes) c.put_text.ensures.cause c.status_of.ensures

pub returns-in-Err-clause-end : goal.returns-in-Err-clause-end
returns-in-Err-clause-end g c name hash taps =
    stop_end (planned c.args.target name c.args.plan.now) (c.args.text.now ∷ [])
    (call_of hash taps (g.F.Shelf.content c.args.shelf.now) (g.F.Shelf.faults c.args.shelf.now) (g.F.Shelf.faults c.planned.new.shelf) (sent_as c.stopped.result (g.S.Sink.held c.args.sink.now) (g.S.Sink.held c.stopped.new.sink) (g.S.Sink.faults c.args.sink.now) (g.S.Sink.faults c.stopped.new.sink)))
    c.in-Err.stop (c.in-Err.ensures.stop name) c.stopped.ensures
