use Rattle.std.proofs.Common.{◌≡◌, ◌+◌, ◌∙◌, [], ap, arith, length, rules}
use Rattle.dom_report.proofs.Depths.{depth_of}
use Rattle.dom_report.proofs.Packets.{cycle_fits, cycle_more}
use Rattle.dom_report.proofs.TappedRuns.{cycles_drained, drain_fits, drained, drained_part, packet_part, packet_tapped}
use Rattle.dom_report.proofs.tapping.clock_tapped.Goals as goal

pub clock_packet-requires : goal.clock_packet-requires
clock_packet-requires g c =
    let entering : length c.fill.new.packet ≡ length c.args.entering.now = search rules in (
      omega arith,
      (
        rw c.loop-k.invariant.config (ap length c.words-words.ensures ∙ entering ∙ c.requires.entering),
        (
          rw c.loop-k.invariant.config (c.loop-k.invariant.leaving ∙ c.requires.leaving),
          (
            rw (c.loop-k.invariant.config, c.loop-k.invariant.same) c.requires.words,
            omega (arith, cycle_fits c.args.trace.now c.loop-k.k c.loop-k.number (0, []) (omega arith) c.loop-k.invariant.number, c.gap.ensures, c.from-gap.ensures, c.requires.cycles),
          ),
        ),
      ),
    )

pub returns-in_default-clause-part : goal.returns-in_default-clause-part
returns-in_default-clause-part g c =
    packet_part (g.H.HashUnits.meaning c.args.hash.now) _ _ _ (g.S.Sink.held c.loop-k.sink) (g.S.Sink.held c.clock_packet.new.sink) c.args.trace.now c.loop-k.k c.loop-k.number c.loop-k.invariant.number c.loop-k.invariant.clocked
    c.from-gap.result c.words-words.result.now (0, []) (omega arith) (c.from-gap.ensures ∙ c.gap.ensures) (c.words-words.ensures ∙ c.fill.ensures) c.args.tapped.now.machine.config c.in_default.ensures.part

pub overflow_add-number-in-loop-k : goal.overflow_add-number-in-loop-k
overflow_add-number-in-loop-k g c =
    omega (arith, cycle_fits c.args.trace.now c.loop-k.k c.loop-k.number (0, []) (omega arith) c.loop-k.invariant.number, c.gap.ensures, c.from-gap.ensures, c.requires.cycles)

pub loop-k-preserved : goal.loop-k-preserved
loop-k-preserved g c =
    let entering : length c.fill.new.packet ≡ length c.args.entering.now = search rules in
    record {
      clocked =
          packet_tapped (g.H.HashUnits.meaning c.args.hash.now) _ _ _ (g.S.Sink.held c.loop-k.sink) (g.S.Sink.held c.clock_packet.new.sink) c.args.trace.now c.loop-k.k c.loop-k.number c.loop-k.invariant.number c.loop-k.invariant.clocked
          c.from-gap.result c.words-words.result.now (0, []) (omega arith) (c.from-gap.ensures ∙ c.gap.ensures) (c.words-words.ensures ∙ c.fill.ensures) _ c.in-Ok.ensures.clocked;
      number = ap (λ n. c.loop-k.number + (n + 1)) (c.from-gap.ensures ∙ c.gap.ensures) ∙ cycle_more c.args.trace.now c.loop-k.k c.loop-k.number (0, []) (omega arith) c.loop-k.invariant.number;
      count = c.in-Ok.ensures.cause.kept ∙ c.loop-k.invariant.count;
      config = c.in-Ok.ensures.config ∙ c.loop-k.invariant.config;
      entering = entering;
      leaving = c.in-Ok.ensures.size ∙ c.loop-k.invariant.leaving;
      same = c.in-Ok.ensures.same ∙ c.loop-k.invariant.same;
    }

pub clock_idle-requires : goal.clock_idle-requires
clock_idle-requires g c =
    let depth =
    depth_of c.stages-depth.result c.config.result.now c.args.tapped.now.machine.config c.machine.result.now c.loop-k.tapped.machine c.stages-depth.ensures c.config.ensures.same c.machine.ensures c.loop-k.invariant.config in (
      omega arith,
      (
        rw c.loop-k.invariant.config (c.loop-k.invariant.leaving ∙ c.requires.leaving),
        (
          rw (c.loop-k.invariant.config, c.loop-k.invariant.same) c.requires.words,
          drain_fits (g.H.HashUnits.meaning c.args.hash.now) _ _ _ (g.S.Sink.held c.loop-k.sink) (g.S.Sink.held c.loop-k.sink) c.args.trace.now c.loop-k.k c.loop-k.number c.loop-k.invariant.number c.loop-k.invariant.clocked
              (omega arith) c.args.tapped.now.machine.config c.stages-depth.result depth c.requires.cycles,
        ),
      ),
    )

pub returns-in_default-clock_idle-clause-part : goal.returns-in_default-clock_idle-clause-part
returns-in_default-clock_idle-clause-part g c =
    let depth =
    depth_of c.stages-depth.result c.config.result.now c.args.tapped.now.machine.config c.machine.result.now c.loop-k.tapped.machine c.stages-depth.ensures c.config.ensures.same c.machine.ensures c.loop-k.invariant.config in
    drained_part (g.H.HashUnits.meaning c.args.hash.now) _ _ _ (g.S.Sink.held c.loop-k.sink) (g.S.Sink.held c.clock_idle.new.sink) c.args.trace.now c.loop-k.k c.loop-k.number c.loop-k.invariant.number c.loop-k.invariant.clocked
    (omega arith) c.args.tapped.now.machine.config c.stages-depth.result depth c.in_default-clock_idle.ensures.part

pub overflow_add-result : goal.overflow_add-result
overflow_add-result g c =
    let depth =
    depth_of c.stages-depth.result c.config.result.now c.args.tapped.now.machine.config c.machine.result.now c.loop-k.tapped.machine c.stages-depth.ensures c.config.ensures.same c.machine.ensures c.loop-k.invariant.config in
    let room = drain_fits (g.H.HashUnits.meaning c.args.hash.now) _ _ _ (g.S.Sink.held c.loop-k.sink) (g.S.Sink.held c.loop-k.sink) c.args.trace.now c.loop-k.k c.loop-k.number c.loop-k.invariant.number c.loop-k.invariant.clocked
    (omega arith) c.args.tapped.now.machine.config c.stages-depth.result depth c.requires.cycles in
    omega (arith, room)

pub returns-clause-clocked : goal.returns-clause-clocked
returns-clause-clocked g c =
    let depth =
    depth_of c.stages-depth.result c.config.result.now c.args.tapped.now.machine.config c.machine.result.now c.loop-k.tapped.machine c.stages-depth.ensures c.config.ensures.same c.machine.ensures c.loop-k.invariant.config in
    drained (g.H.HashUnits.meaning c.args.hash.now) _ _ _ (g.S.Sink.held c.loop-k.sink) (g.S.Sink.held c.clock_idle.new.sink) c.args.trace.now c.loop-k.k c.loop-k.number c.loop-k.invariant.number c.loop-k.invariant.clocked
    (omega arith) c.args.tapped.now.machine.config c.stages-depth.result depth _ c.in-Ok-clock_idle.ensures.clocked

pub returns-clause-cycles : goal.returns-clause-cycles
returns-clause-cycles g c =
    let depth =
    depth_of c.stages-depth.result c.config.result.now c.args.tapped.now.machine.config c.machine.result.now c.loop-k.tapped.machine c.stages-depth.ensures c.config.ensures.same c.machine.ensures c.loop-k.invariant.config in
    cycles_drained (g.H.HashUnits.meaning c.args.hash.now) _ _ _ (g.S.Sink.held c.loop-k.sink) (g.S.Sink.held c.loop-k.sink) c.args.trace.now c.loop-k.k c.loop-k.number c.loop-k.invariant.number c.loop-k.invariant.clocked
    (omega arith) c.args.tapped.now.machine.config c.stages-depth.result depth
