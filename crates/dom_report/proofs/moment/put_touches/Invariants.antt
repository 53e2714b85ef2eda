use Rattle.std.proofs.Common.{◌≡◌, take}
use Rattle.dom_io.specs.Held.{appended}
use Rattle.trace_text.specs.Lines.{joined}
use Rattle.dom_report.specs.WatchReport.{touch_lines}
use Rattle.dom_report.proofs.moment.put_touches.Given as goal

abbrev pub invariant-loop-touch : goal.invariant-loop-touch
invariant-loop-touch g l = record {
  put : g.S.Sink.held l.sink ≡ appended (g.S.Sink.held l.initial.sink) (joined (touch_lines l.initial.lines.arrays (take l.touch-index l.touches)));
  count : g.S.Sink.faults l.sink ≡ g.S.Sink.faults l.initial.sink;
  same : l.lines ≡ l.initial.lines;
}
