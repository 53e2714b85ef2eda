use Rattle.std.proofs.Common.{◌≡◌, map, take}
use Rattle.dom_io.specs.Held.{appended}
use Rattle.probe_taps.specs.Attached.{attached_forms}
use Rattle.trace_text.specs.Lines.{joined}
use Rattle.dom_report.specs.ProbeReport.{tap_lines}
use Rattle.dom_report.proofs.probe_report.put_taps.Given as goal

abbrev pub invariant-loop-position : goal.invariant-loop-position
invariant-loop-position g l = record {
  put : g.S.Sink.held l.sink ≡ appended (g.S.Sink.held l.initial.sink) (joined (tap_lines 1 (take l.position (map (λ a. a.tap.number) (attached_forms (λ b. (goal.Tap-dyn g (b.vtable, b.value)).form b.value) l.tapped.taps.items)))));
  count : g.S.Sink.faults l.sink ≡ g.S.Sink.faults l.initial.sink;
  same : l.lines ≡ l.initial.lines;
}
