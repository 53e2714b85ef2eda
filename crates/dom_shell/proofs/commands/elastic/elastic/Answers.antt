use Rattle.std.proofs.Common.{◌∙◌}
use Rattle.probe_taps.specs.Taps.{tap_forms}
use Rattle.dom_finding.specs.CommandForm.{configs_in}
use Rattle.dom_finding.specs.Files.{ask_of}
use Rattle.dom_finding.specs.Finding.{config_file}
use Rattle.dom_shell.specs.Ends.{sent_as}
use Rattle.dom_shell.proofs.Queues.{behind_config, no_config, unread_config}
use Rattle.dom_shell.proofs.Texts as lemma
use Rattle.dom_shell.proofs.commands.elastic.elastic.Goals as goal

pub returns-in-Err-clause-end : goal.returns-in-Err-clause-end
returns-in-Err-clause-end g c =
    unread_config (configs_in c.args.files) c.args.events.now (g.H.HashUnits.meaning c.args.hash.now) (tap_forms (λ b. (goal.Tap-dyn g (b.vtable, b.value)).form b.value) c.args.taps.items) (g.F.Shelf.content c.args.shelf.now) (g.F.Shelf.faults c.args.shelf.now) (g.F.Shelf.faults c.text_in.new.shelf)
    (sent_as c.stopped.result (g.S.Sink.held c.args.sink.now) (g.S.Sink.held c.stopped.new.sink) (g.S.Sink.faults c.args.sink.now) (g.S.Sink.faults c.stopped.new.sink)) c.in-Err.stop
    (lemma.stop_of (g.F.Shelf.content c.args.shelf.now) (g.F.Shelf.faults c.args.shelf.now) (g.F.Shelf.faults c.text_in.new.shelf) (ask_of c.config_file.result) (config_file c.args.files.config.now) c.in-Err.stop c.config_file.ensures c.in-Err.ensures.stop)
    c.stopped.ensures

pub returns-in-Ok-parts_in-clause-end : goal.returns-in-Ok-parts_in-clause-end
returns-in-Ok-parts_in-clause-end g c =
    let is = lemma.text_of (g.F.Shelf.content c.args.shelf.now) (ask_of c.config_file.result) (config_file c.args.files.config.now) c.in-Ok.text.items c.config_file.ensures c.in-Ok.ensures.text in
    behind_config (configs_in c.args.files) c.args.events.now (g.H.HashUnits.meaning c.args.hash.now) (tap_forms (λ b. (goal.Tap-dyn g (b.vtable, b.value)).form b.value) c.args.taps.items) (g.F.Shelf.content c.args.shelf.now) c.in-Ok.text.items is (g.F.Shelf.content c.text_in.new.shelf)
    (g.F.Shelf.faults c.args.shelf.now) (g.F.Shelf.faults c.text_in.new.shelf) (g.F.Shelf.faults c.on_target.new.shelf)
    (sent_as c.on_target.result (g.S.Sink.held c.args.sink.now) (g.S.Sink.held c.on_target.new.sink) (g.S.Sink.faults c.args.sink.now) (g.S.Sink.faults c.on_target.new.sink))
    c.in-Ok.ensures.files c.in-Ok.ensures.kept (rw c.as_slice-bytes.ensures.value at c.on_target.ensures.end c.args.files.config.now)

pub returns-in-Ok-parts_in-clause-files : goal.returns-in-Ok-parts_in-clause-files
returns-in-Ok-parts_in-clause-files g c name = c.on_target.ensures.files name ∙ c.in-Ok.ensures.files name

pub returns-in-Err-parts_in-clause-end : goal.returns-in-Err-parts_in-clause-end
returns-in-Err-parts_in-clause-end g c =
    let is = lemma.text_of (g.F.Shelf.content c.args.shelf.now) (ask_of c.config_file.result) (config_file c.args.files.config.now) c.in-Ok.text.items c.config_file.ensures c.in-Ok.ensures.text in
    no_config (configs_in c.args.files) c.args.events.now (g.H.HashUnits.meaning c.args.hash.now) (tap_forms (λ b. (goal.Tap-dyn g (b.vtable, b.value)).form b.value) c.args.taps.items) (g.F.Shelf.content c.args.shelf.now) c.in-Ok.text.items is (g.F.Shelf.faults c.args.shelf.now) (g.F.Shelf.faults c.text_in.new.shelf)
    (sent_as c.stopped-in-Err-parts_in.result (g.S.Sink.held c.args.sink.now) (g.S.Sink.held c.stopped-in-Err-parts_in.new.sink) (g.S.Sink.faults c.args.sink.now) (g.S.Sink.faults c.stopped-in-Err-parts_in.new.sink)) c.in-Err-parts_in.stop
    c.in-Ok.ensures.kept (rw c.as_slice-bytes.ensures.value at c.in-Err-parts_in.ensures.stop) c.stopped-in-Err-parts_in.ensures
