use Rattle.std.proofs.Common.{◌∙◌, ◌++◌, ap}
use Rattle.dom_io.specs.Held.{appended}
use Rattle.banzai_machine.specs.Pipe.{drain}
use Rattle.trace_text.specs.Trace.{entries}
use Rattle.dom_report.specs.Clocking.{cycles_from}
use Rattle.dom_report.proofs.DrivenLines.{line_stop, lines_from_start, lines_kept, part_of_lines, stands_after}
use Rattle.dom_report.proofs.driving.drive.Goals as goal

pub returns-in_default-clause-bytes : goal.returns-in_default-clause-bytes
returns-in_default-clause-bytes g c =
    part_of_lines (g.H.HashUnits.meaning c.args.hash.now) c.args.machine.now c.requires.start c.clock.new.machine c.args.lines.now _ (g.S.Sink.held c.clock.new.sink)
    (entries c.args.trace.now ++ drain c.args.machine.now.config) (rw (c.of-packets.ensures.next, c.of-packets.ensures.trace) at c.in_default.ensures.stopped)

pub returns-in_default-clause-stops : goal.returns-in_default-clause-stops
returns-in_default-clause-stops g c =
    line_stop (g.H.HashUnits.meaning c.args.hash.now) c.args.machine.now c.requires.start c.clock.new.machine c.args.lines.now _ (g.S.Sink.held c.clock.new.sink)
    (entries c.args.trace.now ++ drain c.args.machine.now.config) (rw (c.of-packets.ensures.next, c.of-packets.ensures.trace) at c.in_default.ensures.stopped)

pub returns-clause-stands : goal.returns-clause-stands
returns-clause-stands g c =
    let done = rw (c.of-packets.ensures.next, c.of-packets.ensures.trace) at c.in-Ok.ensures.clocked in
    stands_after (g.H.HashUnits.meaning c.args.hash.now) c.args.machine.now c.requires.start c.clock.new.machine (entries c.args.trace.now ++ drain c.args.machine.now.config) done.machine_is

pub returns-clause-bytes : goal.returns-clause-bytes
returns-clause-bytes g c =
    let done = rw (c.of-packets.ensures.next, c.of-packets.ensures.trace) at c.in-Ok.ensures.clocked in
    done.held_is
    ∙ ap (appended (g.S.Sink.held c.args.sink.now))
    (lines_from_start (g.H.HashUnits.meaning c.args.hash.now) c.args.machine.now c.requires.start c.args.lines.now (entries c.args.trace.now ++ drain c.args.machine.now.config))

pub returns-clause-same : goal.returns-clause-same
returns-clause-same g c =
    let done = rw (c.of-packets.ensures.next, c.of-packets.ensures.trace) at c.in-Ok.ensures.clocked in
    done.action_is
    ∙ lines_kept (g.H.HashUnits.meaning c.args.hash.now) c.args.lines.now (cycles_from (g.H.HashUnits.meaning c.args.hash.now) c.args.machine.now 0 (entries c.args.trace.now ++ drain c.args.machine.now.config))
