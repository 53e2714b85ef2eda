use Rattle.std.proofs.Common.{◌∙◌}
use Rattle.dom_ast.specs.CheckedForm.{checked_form}
use Rattle.dom_finding.specs.CommandForm.{names_in}
use Rattle.dom_finding.specs.Files.{ask_of}
use Rattle.dom_finding.specs.Finding.{program_file, trace_file}
use Rattle.dom_shell.proofs.Texts as lemma
use Rattle.dom_shell.proofs.commands.serial.prepare.Goals as goal

pub returns-in-Err-clause-stop : goal.returns-in-Err-clause-stop
returns-in-Err-clause-stop g c =
    lemma.serial_program_file (names_in c.args.files) (g.F.Shelf.content c.args.shelf.now) (g.F.Shelf.faults c.args.shelf.now) (g.F.Shelf.faults c.text_in.new.shelf) c.in-Err.stop
    (lemma.stop_of (g.F.Shelf.content c.args.shelf.now) (g.F.Shelf.faults c.args.shelf.now) (g.F.Shelf.faults c.text_in.new.shelf) (ask_of c.program_file.result) (program_file c.args.files.program.now) c.in-Err.stop c.program_file.ensures c.in-Err.ensures.stop)

pub returns-in-Err-program_in-clause-stop : goal.returns-in-Err-program_in-clause-stop
returns-in-Err-program_in-clause-stop g c =
    let text = lemma.text_of (g.F.Shelf.content c.args.shelf.now) (ask_of c.program_file.result) (program_file c.args.files.program.now) c.in-Ok.text.items c.program_file.ensures c.in-Ok.ensures.text in
    lemma.serial_program (names_in c.args.files) (g.F.Shelf.content c.args.shelf.now) (g.F.Shelf.faults c.args.shelf.now) (g.F.Shelf.faults c.text_in.new.shelf) c.in-Err-program_in.stop
    c.in-Ok.text.items text c.in-Ok.ensures.kept (rw c.as_slice.ensures.value at c.in-Err-program_in.ensures.stop)

pub returns-in-Err-text_in-clause-stop : goal.returns-in-Err-text_in-clause-stop
returns-in-Err-text_in-clause-stop g c =
    let text = lemma.text_of (g.F.Shelf.content c.args.shelf.now) (ask_of c.program_file.result) (program_file c.args.files.program.now) c.in-Ok.text.items c.program_file.ensures c.in-Ok.ensures.text in
    let well = rw c.as_slice.ensures.value at c.in-Ok-program_in.ensures.ok in
    lemma.serial_trace_file (names_in c.args.files) (g.F.Shelf.content c.args.shelf.now) (g.F.Shelf.faults c.args.shelf.now) (g.F.Shelf.faults c.text_in-2.new.shelf) c.in-Err-text_in.stop
    c.in-Ok.text.items text (checked_form c.in-Ok-program_in.program) well
    (lemma.stop_later (g.F.Shelf.content c.args.shelf.now) (g.F.Shelf.content c.text_in.new.shelf) (g.F.Shelf.faults c.args.shelf.now) (g.F.Shelf.faults c.text_in.new.shelf) (g.F.Shelf.faults c.text_in-2.new.shelf) (ask_of c.trace_file.result) (trace_file c.args.files.trace.now) c.in-Err-text_in.stop
    c.trace_file.ensures c.in-Ok.ensures.files c.in-Ok.ensures.kept c.in-Err-text_in.ensures.stop)

pub returns-clause-found : goal.returns-clause-found
returns-clause-found g c =
    let text = lemma.text_of (g.F.Shelf.content c.args.shelf.now) (ask_of c.program_file.result) (program_file c.args.files.program.now) c.in-Ok.text.items c.program_file.ensures c.in-Ok.ensures.text in
    let well = rw c.as_slice.ensures.value at c.in-Ok-program_in.ensures.ok in
    let trace = lemma.text_later (g.F.Shelf.content c.args.shelf.now) (g.F.Shelf.content c.text_in.new.shelf) (ask_of c.trace_file.result) (trace_file c.args.files.trace.now) c.in-Ok-text_in.trace.items
    c.trace_file.ensures c.in-Ok.ensures.files c.in-Ok-text_in.ensures.text in
    lemma.ok_of_both _ _ _ c.ready.result
    (λ s up says. (
      c.in-Ok-program_in.program,
      up,
      lemma.serial_found (names_in c.args.files) (g.F.Shelf.content c.args.shelf.now) c.in-Ok.text.items c.in-Ok-text_in.trace.items (checked_form c.in-Ok-program_in.program) s.trace text well trace says,
    ))
    c.ready.ensures.set_up (rw c.as_slice-2.ensures.value at c.ready.ensures.packets)

pub returns-clause-stop : goal.returns-clause-stop
returns-clause-stop g c =
    let text = lemma.text_of (g.F.Shelf.content c.args.shelf.now) (ask_of c.program_file.result) (program_file c.args.files.program.now) c.in-Ok.text.items c.program_file.ensures c.in-Ok.ensures.text in
    let well = rw c.as_slice.ensures.value at c.in-Ok-program_in.ensures.ok in
    let trace = lemma.text_later (g.F.Shelf.content c.args.shelf.now) (g.F.Shelf.content c.text_in.new.shelf) (ask_of c.trace_file.result) (trace_file c.args.files.trace.now) c.in-Ok-text_in.trace.items
    c.trace_file.ensures c.in-Ok.ensures.files c.in-Ok-text_in.ensures.text in
    lemma.err_of _ _ c.ready.result
    (λ s. lemma.serial_trace (names_in c.args.files) (g.F.Shelf.content c.args.shelf.now) (g.F.Shelf.faults c.args.shelf.now) (g.F.Shelf.faults c.text_in-2.new.shelf) s
    c.in-Ok.text.items text (checked_form c.in-Ok-program_in.program) well c.in-Ok-text_in.trace.items trace
    (λ name. c.in-Ok-text_in.ensures.kept name ∙ c.in-Ok.ensures.kept name))
    (rw c.as_slice-2.ensures.value at c.ready.ensures.stop)
