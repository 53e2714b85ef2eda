use Rattle.std.proofs.Common.{◌≡◌, ◌<◌, ◌∙◌, [], ℕ, length, get_or, subst, ap}
use Rattle.std.proofs.lemmas.List.{get_or_read}
use Rattle.codelets.specs.Answer.{codelet_of}
use Rattle.codelets.specs.ByRows.{cut_by}
use Rattle.codelets.proofs.Ordered.{map_take_more}
use Rattle.codelets.proofs.listing.codelet_list.Goals as goal

pub loop-k-preserved : goal.loop-k-preserved
loop-k-preserved c =
    let D = cut_by c.args.flat.now c.args.graph.now in
    let k : ℕ = c.loop-k.k in
    let h : k < length c.args.order.now = subst (λ (n : ℕ). k < n) c.len-k-end.ensures c.loop-k-test.true in
    let piece : c.as_slice.result.now ≡ get_or c.args.order.now k [] = c.as_slice.ensures ∙ get_or_read c.args.order.now k c.get.result.now h c.get.ensures.same [] in
    c.in_ok-push.ensures.ok ∙ map_take_more (codelet_of D) c.args.order.now k [] c.loop-k.list c.in_ok-next.next h c.loop-k.invariant (c.in_ok-next.ensures ∙ ap (codelet_of D) piece)
