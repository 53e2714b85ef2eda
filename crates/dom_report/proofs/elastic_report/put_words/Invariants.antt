use Rattle.std.proofs.Common.{◌≡◌, take}
use Rattle.dom_io.specs.Held.{appended}
use Rattle.trace_text.specs.Lines.{joined}
use Rattle.dom_report.specs.SerialReport.{state_lines}
use Rattle.dom_report.proofs.elastic_report.put_words.Given as goal

abbrev pub invariant-loop-array : goal.invariant-loop-array
invariant-loop-array g l = record {
  put : g.S.Sink.held l.sink ≡ appended (g.S.Sink.held l.initial.sink) (joined (state_lines (take l.array l.initial.lines.arrays) (take l.array l.elastic.state)));
  count : g.S.Sink.faults l.sink ≡ g.S.Sink.faults l.initial.sink;
  same : l.lines ≡ l.initial.lines;
}
