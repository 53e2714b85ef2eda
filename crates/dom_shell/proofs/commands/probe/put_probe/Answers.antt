use Rattle.std.proofs.Common.{◌∙◌, arith, inl, inr, sym}
use Rattle.dom_finding.specs.Finding.{tapped}
use Rattle.probe_taps.specs.Taps.{tap_forms}
use Rattle.dom_shell.specs.Call.{report_of}
use Rattle.dom_shell.proofs.Ended.{put_tried}
use Rattle.dom_shell.proofs.Probed.{as_many}
use Rattle.dom_shell.proofs.commands.probe.put_probe.Goals as goal

pub returns-in-Ok : goal.returns-in-Ok
returns-in-Ok g c =
    inl (put_tried c.put_tapped.result _
    (report_of (g.H.HashUnits.meaning c.args.hash.now) (tap_forms (λ b. (goal.Tap-dyn g (b.vtable, b.value)).form b.value) c.args.taps.items) (tapped c.args.stage.number c.args.run.machine.config c.args.run.trace))
    (rw (c.in-Ok.ensures.taps, c.in-Ok.ensures.machine, c.in-Ok.ensures.trace) at c.put_tapped.ensures.bytes) c.put_tapped.ensures.cause c.status_of.ensures)

pub returns-in-Err : goal.returns-in-Err
returns-in-Err g c = inr c.stopped.ensures

pub put_tapped-requires : goal.put_tapped-requires
put_tapped-requires g c = (
  omega arith,
  (
    c.in-Ok.ensures.set_up,
    (c.in-Ok.ensures.cycle, c.len-count.ensures ∙ c.args.taps.ok.0 ∙ sym (as_many _ c.args.stage.number c.in-Ok.probing.tapped.taps.items c.args.taps.items c.in-Ok.ensures.taps)),
  ),
)
