use Rattle.std.proofs.Common.{◌≡◌, take}
use Rattle.dom_io.specs.Held.{appended}
use Rattle.trace_text.specs.Lines.{joined}
use Rattle.dom_report.specs.RunReport.{places_from}
use Rattle.dom_report.proofs.run_report.put_places.Given as goal

abbrev pub invariant-loop-array : goal.invariant-loop-array
invariant-loop-array g l = record {
  put : g.S.Sink.held l.sink ≡ appended (g.S.Sink.held l.initial.sink) (joined (places_from l.machine.config.stages 0 (take l.array l.initial.lines.arrays)));
  count : g.S.Sink.faults l.sink ≡ g.S.Sink.faults l.initial.sink;
  same : l.lines ≡ l.initial.lines;
}
