use Rattle.std.proofs.Common.{◌≡◌, length, take}
use Rattle.probe_taps.specs.Attached.{tapped_form}
use Rattle.trace_text.specs.Trace.{entries}
use Rattle.dom_report.specs.Tapping.{TappedOver}
use Rattle.dom_report.proofs.tapping.clock_tapped.Given as goal

abbrev pub invariant-loop-k : goal.invariant-loop-k
invariant-loop-k g l = record {
  clocked : TappedOver (g.H.HashUnits.meaning l.hash) (tapped_form (λ b. (goal.Tap-dyn g (b.vtable, b.value)).form b.value) l.initial.tapped.machine l.initial.tapped.cycle l.initial.tapped.taps.items) (tapped_form (λ b. (goal.Tap-dyn g (b.vtable, b.value)).form b.value) l.tapped.machine l.tapped.cycle l.tapped.taps.items) (g.S.Sink.held l.initial.sink) (g.S.Sink.held l.sink) 0 (entries (take l.k l.trace));
  number : l.number ≡ length (entries (take l.k l.trace));
  count : g.S.Sink.faults l.sink ≡ g.S.Sink.faults l.initial.sink;
  config : l.tapped.machine.config ≡ l.initial.tapped.machine.config;
  entering : length l.entering ≡ length l.initial.entering;
  leaving : length l.leaving ≡ length l.initial.leaving;
  same : l.lines ≡ l.initial.lines;
}
