use Rattle.std.proofs.Common.{[]}
use Rattle.probe_taps.specs.Taps.{tap_forms}
use Rattle.dom_shell.proofs.commands.perform.Goals as goal

pub returns-in-SelfRun-clause-end : goal.returns-in-SelfRun-clause-end
returns-in-SelfRun-clause-end g c = rw c.in-SelfRun.is (c.on_target.ensures.end [])

pub returns-in-Serial-clause-end : goal.returns-in-Serial-clause-end
returns-in-Serial-clause-end g c = rw c.in-Serial.is (c.serial.ensures.end (tap_forms (λ b. (goal.Tap-dyn g (b.vtable, b.value)).form b.value) c.args.taps.items))
