use Rattle.std.proofs.Common.{◌∙◌, arith, codes, sym}
use Rattle.probe_taps.specs.Attached.{attached_form, tapped_form}
use Rattle.dom_report.proofs.Headings.{heading_part, heading_put}
use Rattle.dom_report.proofs.ProbeEnd.{heading_stop, is_tapped, report_put, run_stop, same_length}
use Rattle.dom_report.proofs.probe_report.put_probe_report.Goals as goal

pub clock_tapped-requires : goal.clock_tapped-requires
clock_tapped-requires g c =
    let ready = c.requires.ready in
    (omega arith, (rw c.in-Ok.ensures.same ready.words, (ready.each, (ready.entering_is, (ready.leaving_is, omega (arith, ready.cycles))))))

pub returns-in_default-clause-bytes : goal.returns-in_default-clause-bytes
returns-in_default-clause-bytes g c =
    heading_stop (g.H.HashUnits.meaning c.args.hash.now) (tapped_form (λ b. (goal.Tap-dyn g (b.vtable, b.value)).form b.value) c.args.tapped.now.machine c.args.tapped.now.cycle c.args.tapped.now.taps.items)
    c.requires.ready.start c.args.trace.now _ (g.S.Sink.held c.head.new.sink) (heading_part (g.S.Sink.held c.args.sink.now) (g.S.Sink.held c.head.new.sink) (codes "cycle") c.args.lines.now.fields c.args.tapped.now.machine.config.fields c.requires.ready.fields c.in_default.ensures.bytes)

pub returns-in_default-clock_tapped-clause-bytes : goal.returns-in_default-clock_tapped-clause-bytes
returns-in_default-clock_tapped-clause-bytes g c =
    run_stop (g.H.HashUnits.meaning c.args.hash.now) (tapped_form (λ b. (goal.Tap-dyn g (b.vtable, b.value)).form b.value) c.args.tapped.now.machine c.args.tapped.now.cycle c.args.tapped.now.taps.items)
    c.requires.ready.start c.args.trace.now _ (g.S.Sink.held c.head.new.sink) (g.S.Sink.held c.clock_tapped.new.sink) (heading_put (g.S.Sink.held c.args.sink.now) (g.S.Sink.held c.head.new.sink) (codes "cycle") c.args.lines.now.fields c.args.tapped.now.machine.config.fields c.requires.ready.fields c.in-Ok.ensures.bytes) c.in_default-clock_tapped.ensures.part

pub returns-clause-bytes : goal.returns-clause-bytes
returns-clause-bytes g c =
    report_put (g.H.HashUnits.meaning c.args.hash.now) (tapped_form (λ b. (goal.Tap-dyn g (b.vtable, b.value)).form b.value) c.args.tapped.now.machine c.args.tapped.now.cycle c.args.tapped.now.taps.items)
    c.requires.ready.start c.args.trace.now c.requires.cycle _ (g.S.Sink.held c.head.new.sink) (g.S.Sink.held c.clock_tapped.new.sink) c.in-Ok-clock_tapped.ensures.clocked
    _ _ c.put_end.result c.packets.result c.in-Ok-clock_tapped.cycles c.clock_tapped.ensures.config c.packets.ensures c.in-Ok-clock_tapped.ensures.cycles
    (heading_put (g.S.Sink.held c.args.sink.now) (g.S.Sink.held c.head.new.sink) (codes "cycle") c.args.lines.now.fields c.args.tapped.now.machine.config.fields c.requires.ready.fields c.in-Ok.ensures.bytes) c.put_end.ensures.bytes

pub put_end-requires : goal.put_end-requires
put_end-requires g c =
    let told =
    is_tapped (g.H.HashUnits.meaning c.args.hash.now) (tapped_form (λ b. (goal.Tap-dyn g (b.vtable, b.value)).form b.value) c.args.tapped.now.machine c.args.tapped.now.cycle c.args.tapped.now.taps.items)
    c.requires.ready.start c.args.trace.now c.requires.cycle _ (g.S.Sink.held c.head.new.sink) (g.S.Sink.held c.clock_tapped.new.sink) c.in-Ok-clock_tapped.ensures.clocked in
    let same = same_length (attached_form (λ b. (goal.Tap-dyn g (b.vtable, b.value)).form b.value)) _ c.args.tapped.now.taps.items c.clock_tapped.new.tapped.taps.items told.taps in
    (omega arith, (rw (c.clock_tapped.ensures.config, c.clock_tapped.ensures.same, c.head.ensures.same) c.requires.ready.arrays, c.requires.taps ∙ sym same))
