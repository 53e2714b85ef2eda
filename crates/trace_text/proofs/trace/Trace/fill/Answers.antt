use Rattle.std.proofs.Common.{◌∙◌, ℕ, List, length, sym, ap}
use Rattle.std.proofs.lemmas.List.{length-map}
use Rattle.trace_text.proofs.Storing.{over-all, row-width, seen-at, seen-within}
use Rattle.trace_text.proofs.trace.Trace.fill.Goals as goal

pub row_at-row-requires-clause-within : goal.row_at-row-requires-clause-within
row_at-row-requires-clause-within c =
    let t = c.self.inside in
    seen-within t.width t.columns.items t.count t.cells.items c.args.self.now c.args.k c.self.view_is c.requires.within

pub write_words-requires-clause-columns : goal.write_words-requires-clause-columns
write_words-requires-clause-columns c =
    let t = c.self.inside in
    let within = seen-within t.width t.columns.items t.count t.cells.items c.args.self.now c.args.k c.self.view_is c.requires.within in
    rw (c.as_slice-2.ensures.value, c.row_at-row.ensures, c.as_slice.ensures.value, row-width t.width c.args.k t.count t.cells.items within c.self.invariant.1) c.self.invariant.2

pub write_words-requires-clause-words : goal.write_words-requires-clause-words
write_words-requires-clause-words c =
    let t = c.self.inside in
    let seen = seen-at t.width t.columns.items t.count t.cells.items c.args.self.now c.args.k c.self.view_is c.requires.within in
    rw (c.words_mut.ensures.value, c.as_slice-2.ensures.value) (c.requires.fields ∙ ap (λ (p : ℕ × List ℕ). length p.1) seen ∙ length-map t.columns.items _)

pub returns : goal.returns
returns c =
    let t = c.self.inside in
    let seen = seen-at t.width t.columns.items t.count t.cells.items c.args.self.now c.args.k c.self.view_is c.requires.within in
    let written = rw (c.as_slice-2.ensures.value, c.row_at-row.ensures, c.as_slice.ensures.value) at c.write_words.ensures ∙ sym (ap (λ (p : ℕ × List ℕ). p.1) seen) in
    over-all c.args.packet.now c.write_words.new.words (ap length written ∙ sym c.requires.fields) ∙ written
