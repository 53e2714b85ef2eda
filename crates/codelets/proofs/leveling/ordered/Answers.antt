use Rattle.std.proofs.Common.{◌≡◌, ◌<◌, ◌+◌, ◌∙◌, ◌++◌, ◌∷◌, [], ℕ, nat_eq, List, length, map, get_or, take, sym, subst, ap, arith}
use Rattle.std.specs.List.{filter, flat_map, range_with_len}
use Rattle.std.proofs.lemmas.Bool.{eq-eqb, ne_eqb}
use Rattle.std.proofs.lemmas.List.{take_all, get_or_read}
use Rattle.codelets.specs.Cut.{at_level, level}
use Rattle.codelets.specs.ByRows.{cut_by}
use Rattle.codelets.proofs.Ordered.{inner_more, inner_skip, outer_more, read_map}
use Rattle.codelets.proofs.leveling.ordered.Goals as goal
use Rattle.codelets.proofs.leveling.ordered.Goals.{then-levels-k+in_ok-piece+in_ok-push, else-levels-k}

pub loop-k-preserved : goal.loop-k-preserved
loop-k-preserved c =
    let D = cut_by c.args.flat.now c.args.graph.now in
    let ps : List (List ℕ) = c.args.pieces.now in
    let k : ℕ = c.loop-k.k in
    let l : ℕ = c.loop-l.l in
    let front : List (List ℕ) = flat_map (at_level D) (range_with_len 1 l) in
    let h : k < length ps = subst (λ (n : ℕ). k < n) c.len-k-end.ensures c.loop-k-test.true in
    let at : get_or c.args.levels.now k 0 ≡ level D (get_or ps k []) =
    ap (λ (ls : List ℕ). get_or ls k 0) (c.requires.levels ∙ ap (map (level D)) (sym c.requires.pieces)) ∙ read_map (level D) ps k [] h in
    elim c.if-levels-k.branch [
      | then-levels-k+in_ok-piece+in_ok-push w ↦ (let piece : w.in_ok-piece.piece ≡ get_or ps k [] = w.in_ok-piece.ensures ∙ w.as_slice.ensures ∙ get_or_read ps k w.get.result.now h w.get.ensures.same [] in
          w.order-is ∙ w.in_ok-push.ensures.ok ∙ ap (λ (ds : List (List ℕ)). ds ++ w.in_ok-piece.piece ∷ []) c.loop-k.invariant
          ∙ ap (λ (p : List ℕ). (front ++ filter (λ c'. nat_eq (level D c') (l + 1)) (take k ps)) ++ p ∷ []) piece
          ∙ inner_more (λ c'. nat_eq (level D c') (l + 1)) ps k [] front h (eq-eqb (level D (get_or ps k [])) (l + 1) (sym at ∙ w.if-levels-k.true)))
      | else-levels-k w ↦ w.order-is ∙ c.loop-k.invariant ∙ inner_skip (λ c'. nat_eq (level D c') (l + 1)) ps k [] front h (ne_eqb (level D (get_or ps k [])) (l + 1) (λ e. w.if-levels-k.false (at ∙ e)))
    ]

pub loop-l-preserved : goal.loop-l-preserved
loop-l-preserved c =
    let D = cut_by c.args.flat.now c.args.graph.now in
    let ps : List (List ℕ) = c.args.pieces.now in
    let l : ℕ = c.loop-l.l in
    let front : List (List ℕ) = flat_map (at_level D) (range_with_len 1 l) in
    let all : take c.loop-k.k ps ≡ ps = take_all c.loop-k.k ps (omega (arith, c.loop-k-test.false, c.len-k-end.ensures)) in
    c.loop-k.invariant
    ∙ ap (λ (ds : List (List ℕ)). front ++ filter (λ c'. nat_eq (level D c') (l + 1)) ds) (all ∙ c.requires.pieces)
    ∙ outer_more (at_level D) l
