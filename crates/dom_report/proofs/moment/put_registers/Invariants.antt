use Rattle.std.proofs.Common.{◌≡◌, take}
use Rattle.dom_io.specs.Held.{appended}
use Rattle.trace_text.specs.Lines.{joined}
use Rattle.dom_report.specs.WatchReport.{register_lines}
use Rattle.dom_report.proofs.moment.put_registers.Given as goal

abbrev pub invariant-loop-k : goal.invariant-loop-k
invariant-loop-k g l = record {
  put : g.S.Sink.held l.sink ≡ appended (g.S.Sink.held l.initial.sink) (joined (register_lines 0 (take l.k l.machine.row.registers)));
  count : g.S.Sink.faults l.sink ≡ g.S.Sink.faults l.initial.sink;
  same : l.lines ≡ l.initial.lines;
}
