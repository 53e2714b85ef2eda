use Rattle.std.proofs.Common.{◌∙◌, List, map, refl, sym, ℕ}
use Rattle.std.proofs.lemmas.List.{length-map}
use Rattle.dom_ast.specs.CheckedForm.{checked_form}
use Rattle.dom_ast.specs.Meaning.{serial_arrays}
use Rattle.dom_ast.specs.Resolved.{bodies_form}
use Rattle.dom_report.proofs.InTurn.{heading_stop, report_put, state_stop, turns_stop}
use Rattle.dom_report.proofs.serial_report.put_serial_report.Goals as goal

pub returns-in_default-clause-bytes : goal.returns-in_default-clause-bytes
returns-in_default-clause-bytes g c =
    let packets = map (λ (p : ℕ × List ℕ). p.1) c.args.trace.now in
    heading_stop (g.H.HashUnits.meaning c.args.hash.now) (checked_form c.args.run.now.program) packets c.args.lines.now.arrays c.args.lines.now.fields c.args.run.now.arrays
    (serial_arrays (g.H.HashUnits.meaning c.args.hash.now) (bodies_form c.args.run.now.program.bodies) c.args.run.now.arrays packets) (g.S.Sink.held c.args.sink.now) (g.S.Sink.held c.head.new.sink)
    c.requires.fields c.requires.arrays c.requires.start refl c.in_default.ensures.bytes

pub returns-in_default-put_packets-clause-bytes : goal.returns-in_default-put_packets-clause-bytes
returns-in_default-put_packets-clause-bytes g c =
    let packets = map (λ (p : ℕ × List ℕ). p.1) c.args.trace.now in
    turns_stop (g.H.HashUnits.meaning c.args.hash.now) (checked_form c.args.run.now.program) packets c.args.lines.now.arrays c.args.lines.now.fields c.args.run.now.arrays
    (serial_arrays (g.H.HashUnits.meaning c.args.hash.now) (bodies_form c.args.run.now.program.bodies) c.args.run.now.arrays packets) (g.S.Sink.held c.args.sink.now) (g.S.Sink.held c.head.new.sink)
    (g.S.Sink.held c.put_packets.new.sink) c.requires.fields c.requires.arrays c.requires.start refl c.in-Ok.ensures.bytes c.in_default-put_packets.ensures.part

pub returns-in_default-put_state-clause-bytes : goal.returns-in_default-put_state-clause-bytes
returns-in_default-put_state-clause-bytes g c =
    let packets = map (λ (p : ℕ × List ℕ). p.1) c.args.trace.now in
    state_stop (g.H.HashUnits.meaning c.args.hash.now) (checked_form c.args.run.now.program) packets c.args.lines.now.arrays c.args.lines.now.fields c.args.run.now.arrays
    c.put_packets.new.run.arrays (g.S.Sink.held c.args.sink.now) (g.S.Sink.held c.head.new.sink) (g.S.Sink.held c.put_packets.new.sink) (g.S.Sink.held c.put_state.new.sink)
    c.requires.fields c.requires.arrays c.requires.start c.in-Ok.ensures.bytes c.in-Ok-put_packets.ensures.ran
    (rw (c.in-Ok-put_packets.ensures.same, c.in-Ok.ensures.same) at c.in_default-put_state.ensures.bytes)

pub returns-clause-bytes : goal.returns-clause-bytes
returns-clause-bytes g c =
    let packets = map (λ (p : ℕ × List ℕ). p.1) c.args.trace.now in
    report_put (g.H.HashUnits.meaning c.args.hash.now) (checked_form c.args.run.now.program) packets c.args.lines.now.arrays c.args.lines.now.fields c.args.run.now.arrays
    c.put_packets.new.run.arrays (g.S.Sink.held c.args.sink.now) (g.S.Sink.held c.head.new.sink) (g.S.Sink.held c.put_packets.new.sink) (g.S.Sink.held c.put_state.new.sink) (g.S.Sink.held c.done.new.sink)
    c.done.result c.packets.result c.requires.fields c.requires.arrays c.requires.start (c.packets.ensures ∙ sym (length-map c.args.trace.now (λ (p : ℕ × List ℕ). p.1)))
    c.in-Ok.ensures.bytes c.in-Ok-put_packets.ensures.ran (rw (c.in-Ok-put_packets.ensures.same, c.in-Ok.ensures.same) at c.in-Ok-put_state.ensures.bytes) c.done.ensures.bytes
