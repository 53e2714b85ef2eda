use Rattle.dom_report.proofs.WatchEnd.{watch_put, watch_stop}
use Rattle.dom_report.proofs.watch_report.put_watch_report.Goals as goal

pub returns-in_default-clause-bytes : goal.returns-in_default-clause-bytes
returns-in_default-clause-bytes g c =
    watch_stop (g.H.HashUnits.meaning c.args.hash.now) c.args.machine.now c.requires.start c.args.trace.now c.clock-clocked.new.machine _ (g.S.Sink.held c.args.sink.now) (g.S.Sink.held c.clock-clocked.new.sink)
    (rw (c.of-packets.ensures.next, c.of-packets.ensures.trace) at c.in_default.ensures.stopped)

pub returns-clause-bytes : goal.returns-clause-bytes
returns-clause-bytes g c =
    watch_put (g.H.HashUnits.meaning c.args.hash.now) c.args.machine.now c.requires.start c.args.trace.now c.clock-clocked.new.machine _ _ (g.S.Sink.held c.args.sink.now) (g.S.Sink.held c.clock-clocked.new.sink)
    (g.S.Sink.held c.done.new.sink) c.done.result c.packets.result c.in-Ok.cycles c.packets.ensures
    (rw (c.of-packets.ensures.next, c.of-packets.ensures.trace) at c.in-Ok.ensures.cycles)
    (rw (c.of-packets.ensures.next, c.of-packets.ensures.trace) at c.in-Ok.ensures.clocked)
    c.done.ensures.bytes
