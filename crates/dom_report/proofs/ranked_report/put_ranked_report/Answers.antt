use Rattle.std.proofs.Common.{◌≡◌, ◌+◌, ◌≤◌, arith, codes, length}
use Rattle.trace_text.specs.Trace.{entries}
use Rattle.dom_report.proofs.Headings.{heading_part, heading_put}
use Rattle.dom_report.proofs.RankedRuns.{cycles_front, front_stop, heading_stop, report_put, rest_is, rest_stop, room_is}
use Rattle.dom_report.proofs.ranked_report.put_ranked_report.Goals as goal

pub returns-in_default-clause-bytes : goal.returns-in_default-clause-bytes
returns-in_default-clause-bytes g c =
    heading_stop (g.H.HashUnits.meaning c.args.hash.now) c.args.every c.args.ranked.now c.requires.ready.start c.requires.ready.empty (entries c.args.trace.now) (g.S.Sink.held c.args.sink.now) (g.S.Sink.held c.head.new.sink)
    (heading_part (g.S.Sink.held c.args.sink.now) (g.S.Sink.held c.head.new.sink) (codes "cycle") c.args.lines.now.fields c.args.ranked.now.machine.config.fields c.requires.ready.fields c.in_default.ensures.bytes)

pub returns-in_default-clock_trace-clause-bytes : goal.returns-in_default-clock_trace-clause-bytes
returns-in_default-clock_trace-clause-bytes g c =
    front_stop (g.H.HashUnits.meaning c.args.hash.now) c.args.every c.args.ranked.now c.requires.ready.start c.requires.ready.empty (entries c.args.trace.now) (g.S.Sink.held c.args.sink.now) (g.S.Sink.held c.head.new.sink)
    (g.S.Sink.held c.clock_trace.new.sink) (heading_put (g.S.Sink.held c.args.sink.now) (g.S.Sink.held c.head.new.sink) (codes "cycle") c.args.lines.now.fields c.args.ranked.now.machine.config.fields c.requires.ready.fields c.in-Ok.ensures.bytes) c.in_default-clock_trace.ensures.part

pub cycles_to_serve-rest-requires-clause-few : goal.cycles_to_serve-rest-requires-clause-few
cycles_to_serve-rest-requires-clause-few g c =
    let room =
    room_is (g.H.HashUnits.meaning c.args.hash.now) c.args.every c.args.ranked.now c.requires.ready.start c.requires.ready.empty (entries c.args.trace.now) c.clock_trace.new.ranked c.clock_trace.new.progress
    (g.S.Sink.held c.args.sink.now) (g.S.Sink.held c.head.new.sink) (g.S.Sink.held c.clock_trace.new.sink) (g.S.Sink.held c.clock_trace.new.sink) (heading_put (g.S.Sink.held c.args.sink.now) (g.S.Sink.held c.head.new.sink) (codes "cycle") c.args.lines.now.fields c.args.ranked.now.machine.config.fields c.requires.ready.fields c.in-Ok.ensures.bytes) c.in-Ok-clock_trace.ensures.over in
    omega (arith, c.held.ensures.most, room, c.requires.ready.room)

pub clock_idle-requires : goal.clock_idle-requires
clock_idle-requires g c =
    let cycles = cycles_front (g.H.HashUnits.meaning c.args.hash.now) c.args.every c.args.ranked.now c.clock_trace.new.ranked c.clock_trace.new.progress (g.S.Sink.held c.head.new.sink) (g.S.Sink.held c.clock_trace.new.sink)
    c.args.trace.now c.args.ranked.now.machine.config c.in-Ok-clock_trace.ensures.over in
    (omega arith, (c.in-Ok-clock_trace.ensures.can, omega (arith, cycles, c.requires.ready.cycles, c.cycles_to_serve-rest.ensures.small)))

pub returns-in_default-clock_idle-clause-bytes : goal.returns-in_default-clock_idle-clause-bytes
returns-in_default-clock_idle-clause-bytes g c =
    let head =
    heading_put (g.S.Sink.held c.args.sink.now) (g.S.Sink.held c.head.new.sink) (codes "cycle") c.args.lines.now.fields c.args.ranked.now.machine.config.fields c.requires.ready.fields c.in-Ok.ensures.bytes in
    let more =
    rest_is (g.H.HashUnits.meaning c.args.hash.now) c.args.every c.args.ranked.now c.requires.ready.start c.requires.ready.empty (entries c.args.trace.now) c.clock_trace.new.ranked c.clock_trace.new.progress
    (g.S.Sink.held c.args.sink.now) (g.S.Sink.held c.head.new.sink) (g.S.Sink.held c.clock_trace.new.sink) (g.S.Sink.held c.clock_trace.new.sink) head c.in-Ok-clock_trace.ensures.over
    c.held.result c.cycles_to_serve-rest.result c.held.ensures.count c.cycles_to_serve-rest.ensures.value in
    rest_stop (g.H.HashUnits.meaning c.args.hash.now) c.args.every c.args.ranked.now c.requires.ready.start c.requires.ready.empty (entries c.args.trace.now) c.clock_trace.new.ranked c.clock_trace.new.progress
    (g.S.Sink.held c.args.sink.now) (g.S.Sink.held c.head.new.sink) (g.S.Sink.held c.clock_trace.new.sink) (g.S.Sink.held c.clock_idle.new.sink) head c.in-Ok-clock_trace.ensures.over
    c.cycles_to_serve-rest.result more c.in_default-clock_idle.ensures.part

pub returns-clause-bytes : goal.returns-clause-bytes
returns-clause-bytes g c =
    let head =
    heading_put (g.S.Sink.held c.args.sink.now) (g.S.Sink.held c.head.new.sink) (codes "cycle") c.args.lines.now.fields c.args.ranked.now.machine.config.fields c.requires.ready.fields c.in-Ok.ensures.bytes in
    let more =
    rest_is (g.H.HashUnits.meaning c.args.hash.now) c.args.every c.args.ranked.now c.requires.ready.start c.requires.ready.empty (entries c.args.trace.now) c.clock_trace.new.ranked c.clock_trace.new.progress
    (g.S.Sink.held c.args.sink.now) (g.S.Sink.held c.head.new.sink) (g.S.Sink.held c.clock_trace.new.sink) (g.S.Sink.held c.clock_trace.new.sink) head c.in-Ok-clock_trace.ensures.over
    c.held.result c.cycles_to_serve-rest.result c.held.ensures.count c.cycles_to_serve-rest.ensures.value in
    report_put (g.H.HashUnits.meaning c.args.hash.now) c.args.every c.args.ranked.now c.requires.ready.start c.requires.ready.empty (entries c.args.trace.now) c.clock_trace.new.ranked c.clock_trace.new.progress
    (g.S.Sink.held c.args.sink.now) (g.S.Sink.held c.head.new.sink) (g.S.Sink.held c.clock_trace.new.sink) (g.S.Sink.held c.clock_idle.new.sink) head c.in-Ok-clock_trace.ensures.over
    c.clock_idle.new.ranked c.clock_idle.new.progress (g.S.Sink.held c.put_end.new.sink) c.put_end.result c.cycles_to_serve-rest.result more c.in-Ok-clock_idle.ensures.over c.put_end.ensures.bytes
