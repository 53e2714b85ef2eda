use Rattle.std.proofs.Common.{◌≡◌, None, length, replicate}
use Rattle.probe_taps.specs.Attached.{tapped_form}
use Rattle.dom_report.specs.Tapping.{TappedOver}
use Rattle.dom_report.proofs.tapping.clock_idle.Given as goal

abbrev pub invariant-loop-done : goal.invariant-loop-done
invariant-loop-done g l = record {
  clocked : TappedOver (g.H.HashUnits.meaning l.hash) (tapped_form (λ b. (goal.Tap-dyn g (b.vtable, b.value)).form b.value) l.initial.tapped.machine l.initial.tapped.cycle l.initial.tapped.taps.items) (tapped_form (λ b. (goal.Tap-dyn g (b.vtable, b.value)).form b.value) l.tapped.machine l.tapped.cycle l.tapped.taps.items) (g.S.Sink.held l.initial.sink) (g.S.Sink.held l.sink) l.number (replicate l.done None);
  count : g.S.Sink.faults l.sink ≡ g.S.Sink.faults l.initial.sink;
  config : l.tapped.machine.config ≡ l.initial.tapped.machine.config;
  size : length l.leaving ≡ length l.initial.leaving;
  same : l.lines ≡ l.initial.lines;
}
