use Rattle.std.proofs.Common.{◌≡◌, ◌<◌, ℕ, List, Some, length, slice_get, ◌∙◌, sym, ap, arith}
use Rattle.std.specs.Prelude.{slice_index}
use Rattle.std.proofs.lemmas.Option.{slice_get-get_or}
use Rattle.elastic_machine.specs.declared.mark.Mark.{Mark}
use Rattle.elastic_machine.proofs.Leading.{counts_in}
use Rattle.elastic_machine.proofs.Places.{count_at}
use Rattle.elastic_machine.proofs.elastic.Elastic.held.Goals as goal

pub returns : goal.returns
returns g c =
    let m = c.self.inside in
    let ms : List Mark = m.marks.items in
    let mark : Mark = c.index.result.now in
    let low : c.args.queue < length ms = omega (arith, c.requires, c.self.invariant.0, c.self.invariant.2.queues) in
    let at : slice_get ms c.args.queue ≡ Some mark = slice_get-get_or ms c.args.queue mark low ∙ ap (λ (z : Mark). Some z) (sym c.index.ensures) in
    rw (← c.self.view_is)
    (sym (ap (λ (ns : List ℕ). slice_index ns c.args.queue) (counts_in m.config.containers g.row.CAP ms m.words.items c.self.invariant.2.held.within) ∙ count_at ms c.args.queue mark at))
