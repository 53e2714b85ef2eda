use Rattle.std.proofs.Common.{◌≡◌, ◌+◌, ◌<◌, ◌∙◌, [], ap, arith, length, rules, None, replicate, take}
use Rattle.trace_text.specs.Trace.{entries}
use Rattle.dom_report.proofs.Depths.{depth_of}
use Rattle.dom_report.proofs.Packets.{cycle_fits}
use Rattle.dom_report.proofs.Parts.{idles, on_err, on_ok}
use Rattle.dom_report.proofs.RankedRuns.{cycles_then, drain_over, drain_part, packet_over, packet_part}
use Rattle.dom_report.proofs.ranked_report.clock_trace.Goals as goal

pub clock_packet-requires : goal.clock_packet-requires
clock_packet-requires g c =
    let entering : length c.fill.new.packet ≡ length c.args.entering.now = search rules in
    let cycles : c.loop-k.progress.cycles ≡ length (entries (take c.loop-k.k c.args.trace.now)) = omega (arith, c.loop-k.invariant.over.cycles_is, c.requires.start) in (
      omega arith,
      (
        c.loop-k.invariant.can,
        (
          rw c.loop-k.invariant.config (ap length c.words-words.ensures ∙ entering ∙ c.requires.entering),
          omega (arith, cycle_fits c.args.trace.now c.loop-k.k c.loop-k.progress.cycles (0, []) (omega arith) cycles, c.gap.ensures, c.from-gap.ensures, c.requires.few),
        ),
      ),
    )

pub returns-in_default-clause-part : goal.returns-in_default-clause-part
returns-in_default-clause-part g c =
    packet_part (g.H.HashUnits.meaning c.args.hash.now) c.args.every c.args.ranked.now c.loop-k.ranked c.args.progress.now c.loop-k.progress (g.S.Sink.held c.args.sink.now) (g.S.Sink.held c.loop-k.sink)
    (g.S.Sink.held c.clock_packet.new.sink) c.args.trace.now c.loop-k.k c.loop-k.invariant.over c.from-gap.result c.words-words.result.now (0, []) (omega arith) (c.from-gap.ensures ∙ c.gap.ensures)
    (c.words-words.ensures ∙ c.fill.ensures) (idles (length c.args.ranked.now.machine.config.stages)) c.in_default.ensures.part

pub loop-k-preserved : goal.loop-k-preserved
loop-k-preserved g c =
    let entering : length c.fill.new.packet ≡ length c.args.entering.now = search rules in
    record {
      over =
          packet_over (g.H.HashUnits.meaning c.args.hash.now) c.args.every c.args.ranked.now c.loop-k.ranked c.args.progress.now c.loop-k.progress (g.S.Sink.held c.args.sink.now) (g.S.Sink.held c.loop-k.sink)
          (g.S.Sink.held c.clock_packet.new.sink) c.args.trace.now c.loop-k.k c.loop-k.invariant.over c.from-gap.result c.words-words.result.now (0, []) (omega arith) (c.from-gap.ensures ∙ c.gap.ensures)
          (c.words-words.ensures ∙ c.fill.ensures) c.clock_packet.new.ranked c.clock_packet.new.progress c.in-Ok.ensures.over;
      can = c.in-Ok.ensures.can;
      count = c.in-Ok.ensures.cause.kept ∙ c.loop-k.invariant.count;
      config = c.in-Ok.ensures.config ∙ c.loop-k.invariant.config;
      entering = entering;
      same = c.in-Ok.ensures.same ∙ c.loop-k.invariant.same;
    }

pub clock_idle-requires : goal.clock_idle-requires
clock_idle-requires g c =
    let depth =
    depth_of c.stages-depth.result c.config.result.now c.args.ranked.now.machine.config c.machine.result.now c.loop-k.ranked.machine c.stages-depth.ensures c.config.ensures.same c.machine.ensures c.loop-k.invariant.config in
    let cycles =
    cycles_then (g.H.HashUnits.meaning c.args.hash.now) c.args.every c.args.ranked.now c.loop-k.ranked c.args.progress.now c.loop-k.progress (g.S.Sink.held c.args.sink.now) (g.S.Sink.held c.loop-k.sink)
    (g.S.Sink.held c.loop-k.sink) c.args.trace.now c.loop-k.k c.loop-k.invariant.over (omega arith) c.stages-depth.result (length c.args.ranked.now.machine.config.stages) depth in
    (omega arith, (c.loop-k.invariant.can, omega (arith, cycles, depth, c.requires.start, c.requires.few)))

pub returns-clause-over : goal.returns-clause-over
returns-clause-over g c =
    let depth =
    depth_of c.stages-depth.result c.config.result.now c.args.ranked.now.machine.config c.machine.result.now c.loop-k.ranked.machine c.stages-depth.ensures c.config.ensures.same c.machine.ensures c.loop-k.invariant.config in
    on_ok c.clock_idle.result
    (drain_over (g.H.HashUnits.meaning c.args.hash.now) c.args.every c.args.ranked.now c.loop-k.ranked c.args.progress.now c.loop-k.progress (g.S.Sink.held c.args.sink.now) (g.S.Sink.held c.loop-k.sink)
    (g.S.Sink.held c.clock_idle.new.sink) c.args.trace.now c.loop-k.k c.loop-k.invariant.over (omega arith) c.stages-depth.result (length c.args.ranked.now.machine.config.stages) depth c.clock_idle.new.ranked c.clock_idle.new.progress)
    c.clock_idle.ensures.over

pub returns-clause-part : goal.returns-clause-part
returns-clause-part g c =
    let depth =
    depth_of c.stages-depth.result c.config.result.now c.args.ranked.now.machine.config c.machine.result.now c.loop-k.ranked.machine c.stages-depth.ensures c.config.ensures.same c.machine.ensures c.loop-k.invariant.config in
    on_err c.clock_idle.result
    (drain_part (g.H.HashUnits.meaning c.args.hash.now) c.args.every c.args.ranked.now c.loop-k.ranked c.args.progress.now c.loop-k.progress (g.S.Sink.held c.args.sink.now) (g.S.Sink.held c.loop-k.sink)
    (g.S.Sink.held c.clock_idle.new.sink) c.args.trace.now c.loop-k.k c.loop-k.invariant.over (omega arith) c.stages-depth.result (length c.args.ranked.now.machine.config.stages) depth)
    c.clock_idle.ensures.part
