use Rattle.std.proofs.Common.{◌+◌, ◌<◌, ◌≡◌, ◌∙◌, [], ap, arith, length, refl, rules}
use Rattle.dom_ast.specs.Resolved.{bodies_form}
use Rattle.dom_report.proofs.InTurn.{turn_more, turn_stop}
use Rattle.dom_report.proofs.serial_report.put_packets.Goals as goal

pub packet-requires : goal.packet-requires
packet-requires g c =
    let sized : length c.fill.new.packet ≡ length c.args.run.now.program.fields = search rules in
    let e = ap length c.words.ensures ∙ c.step.ensures.words ∙ sized in
    rw c.loop-k.invariant.same (omega (arith, e, c.requires.words))

pub returns-in_default-clause-part : goal.returns-in_default-clause-part
returns-in_default-clause-part g c =
    let inside : c.loop-k.k < length c.args.trace.now = omega (arith, c.loop-k-test.true, c.packets-k-end.ensures) in
    turn_stop (g.H.HashUnits.meaning c.args.hash.now) (bodies_form c.args.run.now.program.bodies) c.args.run.now.arrays c.loop-k.run.arrays (g.S.Sink.held c.args.sink.now)
    (g.S.Sink.held c.loop-k.sink) (g.S.Sink.held c.packet.new.sink) c.args.trace.now c.loop-k.k (c.loop-k.k + 1) c.fill.new.packet c.words.result.now (0, []) inside refl c.fill.ensures
    (c.words.ensures ∙ rw c.loop-k.invariant.program at c.step.ensures.packet) c.in_default.ensures.bytes c.loop-k.invariant.ran

pub loop-k-preserved : goal.loop-k-preserved
loop-k-preserved g c =
    let inside : c.loop-k.k < length c.args.trace.now = omega (arith, c.loop-k-test.true, c.packets-k-end.ensures) in
    let sized : length c.fill.new.packet ≡ length c.args.run.now.program.fields = search rules in
    record {
      ran =
          turn_more (g.H.HashUnits.meaning c.args.hash.now) (bodies_form c.args.run.now.program.bodies) c.args.run.now.arrays c.loop-k.run.arrays (g.S.Sink.held c.args.sink.now)
          (g.S.Sink.held c.loop-k.sink) (g.S.Sink.held c.packet.new.sink) c.args.trace.now c.loop-k.k (c.loop-k.k + 1) c.fill.new.packet c.words.result.now (0, []) c.step.new.self.arrays inside refl
          c.fill.ensures (c.words.ensures ∙ rw c.loop-k.invariant.program at c.step.ensures.packet) (rw c.loop-k.invariant.program at c.step.ensures.arrays) c.in-Ok.ensures.bytes c.loop-k.invariant.ran;
      count = c.in-Ok.ensures.cause.kept ∙ c.loop-k.invariant.count;
      program = c.step.ensures.program ∙ c.loop-k.invariant.program;
      same = c.in-Ok.ensures.same ∙ c.loop-k.invariant.same;
      room = c.step.ensures.words ∙ sized;
    }
