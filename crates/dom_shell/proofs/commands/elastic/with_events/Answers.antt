use Rattle.std.proofs.Common.{arith, inl, inr}
use Rattle.dom_finding.specs.Files.{ask_of}
use Rattle.dom_finding.specs.Finding.{events_file}
use Rattle.dom_shell.proofs.Texts as lemma
use Rattle.dom_shell.proofs.commands.elastic.with_events.Goals as goal

pub returns-in-Err-clause-stop : goal.returns-in-Err-clause-stop
returns-in-Err-clause-stop g c =
    inl (lemma.stop_of (g.F.Shelf.content c.args.shelf.now) (g.F.Shelf.faults c.args.shelf.now) (g.F.Shelf.faults c.text_in.new.shelf) (ask_of c.events_file.result) (events_file c.args.events.now) c.in-Err.stop c.events_file.ensures c.in-Err.ensures.stop)

pub returns-clause-events : goal.returns-clause-events
returns-clause-events g c =
    let text = lemma.text_of (g.F.Shelf.content c.args.shelf.now) (ask_of c.events_file.result) (events_file c.args.events.now) c.in-Ok.text.items c.events_file.ensures c.in-Ok.ensures.text in
    lemma.ok_of _ _ c.ready.result (λ run says. (c.in-Ok.text.items, text, says)) (rw c.as_slice.ensures.value at c.ready.ensures.events)

pub returns-clause-stop : goal.returns-clause-stop
returns-clause-stop g c =
    let text = lemma.text_of (g.F.Shelf.content c.args.shelf.now) (ask_of c.events_file.result) (events_file c.args.events.now) c.in-Ok.text.items c.events_file.ensures c.in-Ok.ensures.text in
    lemma.err_of _ _ c.ready.result (λ stop is. inr (c.in-Ok.text.items, text, c.in-Ok.ensures.kept, is)) (rw c.as_slice.ensures.value at c.ready.ensures.stop)

pub ready-requires : goal.ready-requires
ready-requires g c =
    let text = lemma.text_of (g.F.Shelf.content c.args.shelf.now) (ask_of c.events_file.result) (events_file c.args.events.now) c.in-Ok.text.items c.events_file.ensures c.in-Ok.ensures.text in
    (omega arith, (c.requires.ready, rw c.as_slice.ensures.value text.1))
