use Rattle.std.proofs.Common.{◌≡◌, length, map, take}
use Rattle.dom_ast.specs.Resolved.{bodies_form}
use Rattle.dom_report.specs.Turns.{RanInTurn}
use Rattle.dom_report.proofs.serial_report.put_packets.Given as goal

abbrev pub invariant-loop-k : goal.invariant-loop-k
invariant-loop-k g l = record {
  ran : RanInTurn (g.H.HashUnits.meaning l.hash) (bodies_form l.initial.run.program.bodies) l.initial.run.arrays l.run.arrays (g.S.Sink.held l.initial.sink) (g.S.Sink.held l.sink) 1 (map (λ p. p.1) (take l.k l.trace));
  count : g.S.Sink.faults l.sink ≡ g.S.Sink.faults l.initial.sink;
  program : l.run.program ≡ l.initial.run.program;
  same : l.lines ≡ l.initial.lines;
  room : length l.packet ≡ length l.initial.run.program.fields;
}
