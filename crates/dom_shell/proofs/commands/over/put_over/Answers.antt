use Rattle.std.proofs.Common.{arith, inl, sym, ap, ◌∙◌}
use Rattle.dom_finding.specs.Finding.{clocked, watched}
use Rattle.probe_taps.specs.Taps.{tap_forms}
use Rattle.dom_shell.specs.Call.{report_of}
use Rattle.dom_shell.proofs.Ended.{put_tried}
use Rattle.dom_shell.proofs.Over.{clear_field, clear_stage}
use Rattle.dom_shell.specs.Tasks.{against}
use Rattle.dom_shell.proofs.commands.over.put_over.Goals as goal

pub returns-in-Exec : goal.returns-in-Exec
returns-in-Exec g c =
    rw c.in-Exec.is
    (inl (put_tried c.put_run_report.result _
    (report_of (g.H.HashUnits.meaning c.args.hash.now) (tap_forms (λ b. (goal.Tap-dyn g (b.vtable, b.value)).form b.value) c.args.taps.items) (clocked c.args.run.machine.config c.args.run.trace))
    c.put_run_report.ensures.bytes c.put_run_report.ensures.cause c.status_of.ensures))

pub returns-in-Watch : goal.returns-in-Watch
returns-in-Watch g c =
    rw c.in-Watch.is
    (inl (put_tried c.put_watch_report.result _
    (report_of (g.H.HashUnits.meaning c.args.hash.now) (tap_forms (λ b. (goal.Tap-dyn g (b.vtable, b.value)).form b.value) c.args.taps.items) (watched c.args.run.machine.config c.args.run.trace))
    c.put_watch_report.ensures.bytes c.put_watch_report.ensures.cause c.status_of-in-Watch.ensures))

pub returns-in-Probe : goal.returns-in-Probe
returns-in-Probe g c = rw c.in-Probe.is c.put_probe.ensures

pub returns-in-Schedule : goal.returns-in-Schedule
returns-in-Schedule g c = rw c.in-Schedule.is (c.put_schedule.ensures (tap_forms (λ b. (goal.Tap-dyn g (b.vtable, b.value)).form b.value) c.args.taps.items))

pub put_probe-requires : goal.put_probe-requires
put_probe-requires g c =
    let clear = ap (λ w. against w c.args.run.machine.config) (sym c.in-Probe.is) ∙ c.requires.clear in
    let within = clear_stage c.in-Probe.stage.number c.args.run.machine.config clear in
    (omega arith, (c.requires.set_up, omega (arith, within, c.requires.stages)))

pub put_schedule-requires : goal.put_schedule-requires
put_schedule-requires g c =
    let clear = ap (λ w. against w c.args.run.machine.config) (sym c.in-Schedule.is) ∙ c.requires.clear in
    (omega arith, (c.requires.set_up, clear_field c.in-Schedule.ranking.field.now c.args.run.machine.config clear))
