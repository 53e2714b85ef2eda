use Rattle.std.proofs.Common.{◌≡◌}
use Rattle.probe_taps.specs.Attached.{attached_forms}
use Rattle.probe_taps.specs.Taps.{tap_forms}
use Rattle.dom_report.specs.ProbeReport.{attached_at}
use Rattle.dom_shell.proofs.commands.probe.attached.Given as goal

abbrev pub invariant-loop-tap : goal.invariant-loop-tap
invariant-loop-tap g l = record {
  machine : l.tapped.machine ≡ l.fn.run.machine;
  cycle : l.tapped.cycle ≡ 0;
  taps : attached_forms (λ b. (goal.Tap-dyn g (b.vtable, b.value)).form b.value) l.tapped.taps.items ≡ attached_at l.fn.stage.number (tap_forms (λ b. (goal.Tap-dyn g (b.vtable, b.value)).form b.value) l.yielded);
}
