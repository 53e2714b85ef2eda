use Rattle.std.proofs.Common.{◌+◌, arith}
use Rattle.dom_report.proofs.DrivenEnd.{all_cycles, heading_stop, run_put, run_stop}
use Rattle.dom_report.proofs.Packets.{length-entries}
use Rattle.dom_report.proofs.run_report.put_run_report.Goals as goal

pub returns-in_default-clause-bytes : goal.returns-in_default-clause-bytes
returns-in_default-clause-bytes g c =
    heading_stop (g.H.HashUnits.meaning c.args.hash.now) c.args.machine.now.config c.args.trace.now _ (g.S.Sink.held c.head.new.sink)
    (rw c.requires.fields at c.in_default.ensures.bytes)

pub returns-in_default-drive-clause-bytes : goal.returns-in_default-drive-clause-bytes
returns-in_default-drive-clause-bytes g c =
    run_stop (g.H.HashUnits.meaning c.args.hash.now) c.args.machine.now.config c.args.trace.now _ (g.S.Sink.held c.head.new.sink) (g.S.Sink.held c.drive.new.sink)
    (rw c.requires.fields at c.in-Ok.ensures.bytes) c.in_default-drive.ensures.bytes

pub returns-clause-bytes : goal.returns-clause-bytes
returns-clause-bytes g c =
    let depth = rw (c.config.ensures.same, c.in-Ok-drive.ensures.config) at c.stages.ensures in
    run_put (g.H.HashUnits.meaning c.args.hash.now) c.args.machine.now.config c.args.trace.now c.drive.new.machine _ (g.S.Sink.held c.head.new.sink) (g.S.Sink.held c.drive.new.sink) _ c.put_end.result
    c.packets.result (c.cycles_over.result + c.stages.result) c.in-Ok-drive.ensures.config c.in-Ok-drive.ensures.stands c.packets.ensures
    (all_cycles (g.H.HashUnits.meaning c.args.hash.now) c.args.machine.now.config c.args.trace.now c.cycles_over.result c.stages.result c.cycles_over.ensures depth)
    (rw c.requires.fields at c.in-Ok.ensures.bytes) c.in-Ok-drive.ensures.bytes (rw c.in-Ok-drive.ensures.config at c.put_end.ensures.bytes)

pub overflow_add-cycles : goal.overflow_add-cycles
overflow_add-cycles g c =
    let depth = rw (c.config.ensures.same, c.in-Ok-drive.ensures.config) at c.stages.ensures in
    omega (arith, c.cycles_over.ensures, length-entries c.args.trace.now, depth, c.requires.cycles)
