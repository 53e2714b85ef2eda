use Rattle.std.proofs.Common.{◌∙◌}
use Rattle.dom_finding.specs.Files.{ask_of}
use Rattle.dom_finding.specs.Finding.{program_file}
use Rattle.probe_taps.specs.Taps.{tap_forms}
use Rattle.dom_shell.specs.Ends.{sent_as}
use Rattle.dom_shell.proofs.Tasked.{behind_read, read_program, unread_end}
use Rattle.dom_shell.proofs.Texts as lemma
use Rattle.dom_shell.proofs.commands.program.with_program.Goals as goal

pub returns-in-Ok-clause-end : goal.returns-in-Ok-clause-end
returns-in-Ok-clause-end g c =
    let is = lemma.text_of (g.F.Shelf.content c.args.shelf.now) (ask_of c.program_file.result) (program_file c.args.program.now) c.in-Ok.text.items c.program_file.ensures c.in-Ok.ensures.text in
    behind_read c.args.target c.args.program.now c.args.task c.requires (g.H.HashUnits.meaning c.args.hash.now) (tap_forms (λ b. (goal.Tap-dyn g (b.vtable, b.value)).form b.value) c.args.taps.items) (g.F.Shelf.content c.args.shelf.now) c.in-Ok.text.items (g.F.Shelf.content c.text_in.new.shelf)
    (g.F.Shelf.faults c.args.shelf.now) (g.F.Shelf.faults c.text_in.new.shelf) (g.F.Shelf.faults c.on_target.new.shelf)
    (sent_as c.on_target.result (g.S.Sink.held c.args.sink.now) (g.S.Sink.held c.on_target.new.sink) (g.S.Sink.faults c.args.sink.now) (g.S.Sink.faults c.on_target.new.sink))
    is c.in-Ok.ensures.files c.in-Ok.ensures.kept (rw c.as_slice.ensures.value at c.on_target.ensures.end c.args.program.now)

pub returns-in-Ok-clause-files : goal.returns-in-Ok-clause-files
returns-in-Ok-clause-files g c name = c.on_target.ensures.files name ∙ c.in-Ok.ensures.files name

pub returns-in-Err-clause-end : goal.returns-in-Err-clause-end
returns-in-Err-clause-end g c =
    unread_end c.args.target c.args.program.now c.args.task c.requires (g.H.HashUnits.meaning c.args.hash.now) (tap_forms (λ b. (goal.Tap-dyn g (b.vtable, b.value)).form b.value) c.args.taps.items) (g.F.Shelf.content c.args.shelf.now) (g.F.Shelf.faults c.args.shelf.now) (g.F.Shelf.faults c.text_in.new.shelf)
    (sent_as c.stopped.result (g.S.Sink.held c.args.sink.now) (g.S.Sink.held c.stopped.new.sink) (g.S.Sink.faults c.args.sink.now) (g.S.Sink.faults c.stopped.new.sink)) c.in-Err.stop
    (lemma.stop_of (g.F.Shelf.content c.args.shelf.now) (g.F.Shelf.faults c.args.shelf.now) (g.F.Shelf.faults c.text_in.new.shelf) (ask_of c.program_file.result) (program_file c.args.program.now) c.in-Err.stop c.program_file.ensures c.in-Err.ensures.stop)
    c.stopped.ensures

pub on_target-requires : goal.on_target-requires
on_target-requires g c =
    let is = lemma.text_of (g.F.Shelf.content c.args.shelf.now) (ask_of c.program_file.result) (program_file c.args.program.now) c.in-Ok.text.items c.program_file.ensures c.in-Ok.ensures.text in
    rw c.as_slice.ensures.value (read_program c.args.target c.in-Ok.text.items c.args.task c.requires is.1)
