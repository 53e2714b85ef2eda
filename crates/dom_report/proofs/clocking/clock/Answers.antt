use Rattle.std.proofs.Common.{◌∙◌, ◌∷◌, List, ap, arith, length, sym, ℕ}
use Rattle.banzai_config.specs.Parts.{PartsForm}
use Rattle.dom_report.proofs.ClockedPackets.{behind_each, cycles_drained, drain_fits, drain_stop, room_for, underway_drained, underway_more, underway_stop}
use Rattle.dom_report.proofs.clocking.clock.Goals as goal

pub clock_packet-requires-clause-few : goal.clock_packet-requires-clause-few
clock_packet-requires-clause-few g c =
    let room = room_for g.A.EachCycle.bytes g.A.EachCycle.after (g.H.HashUnits.meaning c.args.hash.now) (g.M.Clocked.machine c.args.machine.now) (g.M.Clocked.machine c.loop-gap.machine) c.args.action.now c.loop-gap.action _ _
    c.loop-gap.number c.in-Some.gap c.next_packet.new.packet (g.P.Packets.rest c.args.packets.now) _ (g.P.Packets.rest c.next_packet.new.self) _ c.in-Some.ensures.next c.loop-gap.invariant.underway c.requires.cycles in
    omega (arith, room)

pub returns-in_default-clock_packet-clause-stopped : goal.returns-in_default-clock_packet-clause-stopped
returns-in_default-clock_packet-clause-stopped g c =
    underway_stop g.A.EachCycle.bytes g.A.EachCycle.after (g.H.HashUnits.meaning c.args.hash.now) (g.M.Clocked.machine c.args.machine.now) (g.M.Clocked.machine c.loop-gap.machine) (g.M.Clocked.machine c.clock_packet.new.machine)
    c.args.action.now c.loop-gap.action c.loop-gap.action _ (g.S.Sink.held c.loop-gap.sink) (g.S.Sink.held c.clock_packet.new.sink) c.loop-gap.number c.in-Some.gap c.words-words.result.now (g.P.Packets.rest c.args.packets.now) _
    (g.P.Packets.rest c.next_packet.new.self) (g.M.Clocked.machine c.args.machine.now).config (c.in-Some.ensures.next ∙ ap (λ (w : List ℕ). (c.in-Some.gap, w) ∷ g.P.Packets.rest c.next_packet.new.self) (sym c.words-words.ensures))
    c.loop-gap.invariant.underway c.in_default-clock_packet.ensures.stopped

pub overflow_add-number-in-Some : goal.overflow_add-number-in-Some
overflow_add-number-in-Some g c =
    let room = room_for g.A.EachCycle.bytes g.A.EachCycle.after (g.H.HashUnits.meaning c.args.hash.now) (g.M.Clocked.machine c.args.machine.now) (g.M.Clocked.machine c.loop-gap.machine) c.args.action.now c.loop-gap.action _ _
    c.loop-gap.number c.in-Some.gap c.next_packet.new.packet (g.P.Packets.rest c.args.packets.now) _ (g.P.Packets.rest c.next_packet.new.self) _ c.in-Some.ensures.next c.loop-gap.invariant.underway c.requires.cycles in
    omega (arith, room)

pub loop-gap-preserved : goal.loop-gap-preserved
loop-gap-preserved g c = record {
  underway =
      underway_more g.A.EachCycle.bytes g.A.EachCycle.after (g.H.HashUnits.meaning c.args.hash.now) (g.M.Clocked.machine c.args.machine.now) (g.M.Clocked.machine c.loop-gap.machine) (g.M.Clocked.machine c.clock_packet.new.machine)
      c.args.action.now c.loop-gap.action c.clock_packet.new.action _ (g.S.Sink.held c.loop-gap.sink) (g.S.Sink.held c.clock_packet.new.sink) c.loop-gap.number c.in-Some.gap c.words-words.result.now (g.P.Packets.rest c.args.packets.now) _
      (g.P.Packets.rest c.next_packet.new.self) (c.in-Some.ensures.next ∙ ap (λ (w : List ℕ). (c.in-Some.gap, w) ∷ g.P.Packets.rest c.next_packet.new.self) (sym c.words-words.ensures))
      c.loop-gap.invariant.underway c.in-Ok.ensures.clocked;
  each = behind_each _ (g.P.Packets.rest c.loop-gap.packets) _ (c.in-Some.gap, c.next_packet.new.packet) c.in-Some.ensures.next c.loop-gap.invariant.each;
  count = c.in-Ok.ensures.cause.kept ∙ c.loop-gap.invariant.count;
  config = c.in-Ok.ensures.config ∙ c.loop-gap.invariant.config;
  fits = rw c.loop-gap.invariant.config at c.in-Ok.ensures.fits;
  entering = c.in-Some.ensures.size ∙ c.loop-gap.invariant.entering;
  leaving = c.in-Ok.ensures.size ∙ c.loop-gap.invariant.leaving;
}

pub clock_idle-requires-clause-few : goal.clock_idle-requires-clause-few
clock_idle-requires-clause-few g c =
    let depth = c.stages-depth.ensures ∙ ap (λ (p : PartsForm). length p.stages) c.loop-gap.invariant.config in
    drain_fits g.A.EachCycle.bytes g.A.EachCycle.after (g.H.HashUnits.meaning c.args.hash.now) (g.M.Clocked.machine c.args.machine.now) (g.M.Clocked.machine c.loop-gap.machine) c.args.action.now c.loop-gap.action _ _ c.loop-gap.number
    c.next_packet.new.packet (g.P.Packets.rest c.args.packets.now) _ (g.P.Packets.rest c.next_packet.new.self) (g.M.Clocked.machine c.args.machine.now).config c.stages-depth.result depth c.in_default.ensures.next
    c.loop-gap.invariant.underway c.requires.cycles

pub returns-in_default-clock_idle-clause-stopped : goal.returns-in_default-clock_idle-clause-stopped
returns-in_default-clock_idle-clause-stopped g c =
    let depth = c.stages-depth.ensures ∙ ap (λ (p : PartsForm). length p.stages) c.loop-gap.invariant.config in
    drain_stop g.A.EachCycle.bytes g.A.EachCycle.after (g.H.HashUnits.meaning c.args.hash.now) (g.M.Clocked.machine c.args.machine.now) (g.M.Clocked.machine c.loop-gap.machine) (g.M.Clocked.machine c.clock_idle.new.machine)
    c.args.action.now c.loop-gap.action c.loop-gap.action _ (g.S.Sink.held c.loop-gap.sink) (g.S.Sink.held c.clock_idle.new.sink) c.loop-gap.number c.next_packet.new.packet (g.P.Packets.rest c.args.packets.now) _
    (g.P.Packets.rest c.next_packet.new.self) (g.M.Clocked.machine c.args.machine.now).config c.in_default.ensures.next c.loop-gap.invariant.underway
    (rw depth at c.in_default-clock_idle.ensures.stopped)

pub overflow_add-result : goal.overflow_add-result
overflow_add-result g c =
    let depth = c.stages-depth.ensures ∙ ap (λ (p : PartsForm). length p.stages) c.loop-gap.invariant.config in
    let room = drain_fits g.A.EachCycle.bytes g.A.EachCycle.after (g.H.HashUnits.meaning c.args.hash.now) (g.M.Clocked.machine c.args.machine.now) (g.M.Clocked.machine c.loop-gap.machine) c.args.action.now c.loop-gap.action _ _ c.loop-gap.number
    c.next_packet.new.packet (g.P.Packets.rest c.args.packets.now) _ (g.P.Packets.rest c.next_packet.new.self) (g.M.Clocked.machine c.args.machine.now).config c.stages-depth.result depth c.in_default.ensures.next
    c.loop-gap.invariant.underway c.requires.cycles in
    omega (arith, room)

pub returns-clause-clocked : goal.returns-clause-clocked
returns-clause-clocked g c =
    let depth = c.stages-depth.ensures ∙ ap (λ (p : PartsForm). length p.stages) c.loop-gap.invariant.config in
    underway_drained g.A.EachCycle.bytes g.A.EachCycle.after (g.H.HashUnits.meaning c.args.hash.now) (g.M.Clocked.machine c.args.machine.now) (g.M.Clocked.machine c.loop-gap.machine) (g.M.Clocked.machine c.clock_idle.new.machine)
    c.args.action.now c.loop-gap.action c.clock_idle.new.action _ (g.S.Sink.held c.loop-gap.sink) (g.S.Sink.held c.clock_idle.new.sink) c.loop-gap.number c.next_packet.new.packet (g.P.Packets.rest c.args.packets.now) _
    (g.P.Packets.rest c.next_packet.new.self) (g.M.Clocked.machine c.args.machine.now).config c.in_default.ensures.next c.loop-gap.invariant.underway
    (rw depth at c.in-Ok-clock_idle.ensures.clocked)

pub returns-clause-cycles : goal.returns-clause-cycles
returns-clause-cycles g c =
    let depth = c.stages-depth.ensures ∙ ap (λ (p : PartsForm). length p.stages) c.loop-gap.invariant.config in
    cycles_drained g.A.EachCycle.bytes g.A.EachCycle.after (g.H.HashUnits.meaning c.args.hash.now) (g.M.Clocked.machine c.args.machine.now) (g.M.Clocked.machine c.loop-gap.machine) c.args.action.now c.loop-gap.action _ _ c.loop-gap.number
    c.next_packet.new.packet (g.P.Packets.rest c.args.packets.now) _ (g.P.Packets.rest c.next_packet.new.self) (g.M.Clocked.machine c.args.machine.now).config c.stages-depth.result depth c.in_default.ensures.next
    c.loop-gap.invariant.underway
