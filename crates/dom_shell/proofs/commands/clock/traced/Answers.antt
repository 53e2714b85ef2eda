use Rattle.std.proofs.Common.{arith, inl, inr}
use Rattle.dom_finding.specs.Files.{ask_of}
use Rattle.dom_finding.specs.Finding.{trace_file}
use Rattle.dom_shell.proofs.Texts as lemma
use Rattle.dom_shell.proofs.commands.clock.traced.Goals as goal

pub returns-in-Err-clause-stop : goal.returns-in-Err-clause-stop
returns-in-Err-clause-stop g c =
    inl (lemma.stop_of (g.F.Shelf.content c.args.shelf.now) (g.F.Shelf.faults c.args.shelf.now) (g.F.Shelf.faults c.text_in.new.shelf) (ask_of c.trace_file.result) (trace_file c.args.trace.now) c.in-Err.stop c.trace_file.ensures c.in-Err.ensures.stop)

pub returns-clause-trace : goal.returns-clause-trace
returns-clause-trace g c =
    let text = lemma.text_of (g.F.Shelf.content c.args.shelf.now) (ask_of c.trace_file.result) (trace_file c.args.trace.now) c.in-Ok.text.items c.trace_file.ensures c.in-Ok.ensures.text in
    lemma.ok_of _ _ c.ready.result (λ run says. (c.in-Ok.text.items, text, says)) (rw c.as_slice.ensures.value at c.ready.ensures.packets)

pub returns-clause-stop : goal.returns-clause-stop
returns-clause-stop g c =
    let text = lemma.text_of (g.F.Shelf.content c.args.shelf.now) (ask_of c.trace_file.result) (trace_file c.args.trace.now) c.in-Ok.text.items c.trace_file.ensures c.in-Ok.ensures.text in
    lemma.err_of _ _ c.ready.result (λ stop is. inr (c.in-Ok.text.items, text, c.in-Ok.ensures.kept, is)) (rw c.as_slice.ensures.value at c.ready.ensures.stop)

pub ready-requires : goal.ready-requires
ready-requires g c =
    let text = lemma.text_of (g.F.Shelf.content c.args.shelf.now) (ask_of c.trace_file.result) (trace_file c.args.trace.now) c.in-Ok.text.items c.trace_file.ensures c.in-Ok.ensures.text in
    (omega arith, (c.requires.depth, (c.requires.stages, (c.requires.legal, rw c.as_slice.ensures.value text.1))))
