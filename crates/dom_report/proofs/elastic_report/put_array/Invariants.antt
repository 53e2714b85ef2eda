use Rattle.std.proofs.Common.{◌≡◌, take}
use Rattle.dom_io.specs.Held.{appended}
use Rattle.dom_words.specs.State.{array_of}
use Rattle.trace_text.specs.Lines.{joined, name_at}
use Rattle.dom_report.specs.SerialReport.{array_lines}
use Rattle.dom_report.proofs.elastic_report.put_array.Given as goal

abbrev pub invariant-loop-index : goal.invariant-loop-index
invariant-loop-index g l = record {
  put : g.S.Sink.held l.sink ≡ appended (g.S.Sink.held l.initial.sink) (joined (array_lines (name_at l.initial.lines.arrays l.array) 0 (take l.index (array_of l.elastic.state l.array))));
  count : g.S.Sink.faults l.sink ≡ g.S.Sink.faults l.initial.sink;
  same : l.lines ≡ l.initial.lines;
}
