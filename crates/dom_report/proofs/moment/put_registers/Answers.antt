use Rattle.std.proofs.Common.{◌<◌, ◌≡◌, ◌∙◌, arith, length, refl}
use Rattle.dom_report.proofs.WatchParts.{register_more, register_stop, registers_all}
use Rattle.dom_report.proofs.moment.put_registers.Goals as goal

pub returns-in_default-clause-bytes : goal.returns-in_default-clause-bytes
returns-in_default-clause-bytes g c =
    let registers = c.args.machine.now.row.registers in
    let count = rw c.config.ensures.same at c.stages-depth.ensures in
    let inside : c.loop-k.k < length registers = omega (arith, count, c.config.ensures.depth, c.config.ensures.registers, c.loop-k-test.true) in
    register_stop registers c.loop-k.k _ _ (g.S.Sink.held c.args.sink.now) (g.S.Sink.held c.loop-k.sink) (g.S.Sink.held c.put_register.new.sink) inside refl c.register.ensures.words c.loop-k.invariant.put c.in_default.ensures.bytes

pub loop-k-preserved : goal.loop-k-preserved
loop-k-preserved g c =
    let registers = c.args.machine.now.row.registers in
    let count = rw c.config.ensures.same at c.stages-depth.ensures in
    let inside : c.loop-k.k < length registers = omega (arith, count, c.config.ensures.depth, c.config.ensures.registers, c.loop-k-test.true) in
    record {
      put = register_more registers c.loop-k.k _ _ (g.S.Sink.held c.args.sink.now) (g.S.Sink.held c.loop-k.sink) (g.S.Sink.held c.put_register.new.sink) inside refl c.register.ensures.words c.loop-k.invariant.put c.in-Ok.ensures.bytes;
      count = c.in-Ok.ensures.cause.kept ∙ c.loop-k.invariant.count;
      same = c.in-Ok.ensures.same ∙ c.loop-k.invariant.same;
    }

pub returns-clause-bytes : goal.returns-clause-bytes
returns-clause-bytes g c =
    let registers = c.args.machine.now.row.registers in
    let count = rw c.config.ensures.same at c.stages-depth.ensures in
    let all : c.loop-k.k ≡ length registers = omega (arith, count, c.config.ensures.depth, c.config.ensures.registers, c.loop-k-test.false, c.loop-k.auto.k-end) in
    registers_all registers c.loop-k.k (g.S.Sink.held c.args.sink.now) (g.S.Sink.held c.loop-k.sink) all c.loop-k.invariant.put
