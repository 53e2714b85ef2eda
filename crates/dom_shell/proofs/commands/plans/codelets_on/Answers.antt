use Rattle.dom_shell.specs.Ends.{sent_as}
use Rattle.dom_shell.proofs.Plans.{listed, refused}
use Rattle.dom_shell.proofs.commands.plans.codelets_on.Goals as goal

pub returns-in-Ok : goal.returns-in-Ok
returns-in-Ok g c name hash taps files unread =
    let is = c.in-Ok.ensures.written in
    listed c.args.target name c.args.text.now hash taps files unread
    (sent_as c.status_of.result (g.S.Sink.held c.args.sink.now) (g.S.Sink.held c.put_text.new.sink) (g.S.Sink.faults c.args.sink.now) (g.S.Sink.faults c.put_text.new.sink))
    is.0 c.in-Ok.written.items c.put_text.result is.1 is.2 (rw c.as_slice.ensures.value at c.put_text.ensures.bytes) c.put_text.ensures.cause c.status_of.ensures

pub returns-in-Err : goal.returns-in-Err
returns-in-Err g c name hash taps files unread =
    refused c.args.target name c.args.text.now hash taps files unread
    (sent_as c.stopped.result (g.S.Sink.held c.args.sink.now) (g.S.Sink.held c.stopped.new.sink) (g.S.Sink.faults c.args.sink.now) (g.S.Sink.faults c.stopped.new.sink))
    c.in-Err.stop c.in-Err.ensures.stop c.stopped.ensures
