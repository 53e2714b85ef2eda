use Rattle.std.proofs.Common.{[], ◌∷◌}
use Rattle.dom_finding.specs.Command.{configs_named}
use Rattle.probe_taps.specs.Taps.{tap_forms}
use Rattle.dom_shell.specs.Ends.{call_of, sent_as}
use Rattle.dom_shell.specs.Tasks.{command_over, job_over}
use Rattle.dom_shell.proofs.Ended.{stop_end, tried_end}
use Rattle.dom_shell.proofs.commands.over.over_on.Goals as goal

pub returns-in-Ok-clause-end : goal.returns-in-Ok-clause-end
returns-in-Ok-clause-end g c name text spelled =
    tried_end (command_over c.args.what (configs_named name c.args.trace.now)) (text ∷ [])
    (call_of (g.H.HashUnits.meaning c.args.hash.now) (tap_forms (λ b. (goal.Tap-dyn g (b.vtable, b.value)).form b.value) c.args.taps.items) (g.F.Shelf.content c.args.shelf.now) (g.F.Shelf.faults c.args.shelf.now) (g.F.Shelf.faults c.prepare.new.shelf) (sent_as c.put_over.result (g.S.Sink.held c.args.sink.now) (g.S.Sink.held c.put_over.new.sink) (g.S.Sink.faults c.args.sink.now) (g.S.Sink.faults c.put_over.new.sink)))
    (job_over c.args.what c.in-Ok.run'.machine.config c.in-Ok.run'.trace) (c.in-Ok.ensures.found name text spelled) c.in-Ok.ensures.kept c.put_over.ensures

pub returns-in-Err-clause-end : goal.returns-in-Err-clause-end
returns-in-Err-clause-end g c name text spelled =
    stop_end (command_over c.args.what (configs_named name c.args.trace.now)) (text ∷ [])
    (call_of (g.H.HashUnits.meaning c.args.hash.now) (tap_forms (λ b. (goal.Tap-dyn g (b.vtable, b.value)).form b.value) c.args.taps.items) (g.F.Shelf.content c.args.shelf.now) (g.F.Shelf.faults c.args.shelf.now) (g.F.Shelf.faults c.prepare.new.shelf) (sent_as c.stopped.result (g.S.Sink.held c.args.sink.now) (g.S.Sink.held c.stopped.new.sink) (g.S.Sink.faults c.args.sink.now) (g.S.Sink.faults c.stopped.new.sink)))
    c.in-Err.stop (c.in-Err.ensures.stop name text spelled) c.stopped.ensures
