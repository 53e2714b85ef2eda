use Rattle.std.proofs.Common.{◌≡◌, ◌<◌, ◌+◌, ◌∙◌, ◌++◌, [], ℕ, nat_eq, List, length, map, get_or, take, sym, subst, ap, arith}
use Rattle.std.specs.List.{filter, flat_map, range_with_len}
use Rattle.std.proofs.lemmas.Bool.{eq-eqb, ne_eqb}
use Rattle.std.proofs.lemmas.List.{take_all}
use Rattle.codelets.specs.Cut.{at_level, level}
use Rattle.codelets.specs.ByRows.{cut_by}
use Rattle.codelets.proofs.Ordered.{inner_more, inner_skip, outer_more, read_map, level_more}
use Rattle.codelets.proofs.leveling.ordered_levels.Goals as goal
use Rattle.codelets.proofs.leveling.ordered_levels.Goals.{then-levels-k+in_ok-add, else-levels-k}

pub loop-k-preserved : goal.loop-k-preserved
loop-k-preserved c =
    let D = cut_by c.args.flat.now c.args.graph.now in
    let ps : List (List ℕ) = c.args.pieces.now in
    let k : ℕ = c.loop-k.k in
    let l : ℕ = c.loop-l.l in
    let front : List (List ℕ) = flat_map (at_level D) (range_with_len 1 l) in
    let h : k < length ps = subst (λ (n : ℕ). k < n) c.len-k-end.ensures c.loop-k-test.true in
    let at : get_or c.args.levels.now k 0 ≡ level D (get_or ps k []) =
    ap (λ (ls : List ℕ). get_or ls k 0) (c.requires.levels ∙ ap (map (level D)) (sym c.requires.pieces)) ∙ read_map (level D) ps k [] h in
    elim c.if-levels-k.branch [
      | then-levels-k+in_ok-add w ↦ ap (λ v. v.items) w.order-is ∙ w.in_ok-add.ensures
          ∙ level_more (level D) (front ++ filter (λ c'. nat_eq (level D c') (l + 1)) (take k ps)) (get_or ps k []) (l + 1) c.loop-k.order.items c.loop-k.invariant (sym at ∙ w.if-levels-k.true)
          ∙ ap (map (level D)) (inner_more (λ c'. nat_eq (level D c') (l + 1)) ps k [] front h (eq-eqb (level D (get_or ps k [])) (l + 1) (sym at ∙ w.if-levels-k.true)))
      | else-levels-k w ↦ ap (λ v. v.items) w.order-is ∙ c.loop-k.invariant ∙ ap (map (level D)) (inner_skip (λ c'. nat_eq (level D c') (l + 1)) ps k [] front h (ne_eqb (level D (get_or ps k [])) (l + 1) (λ e. w.if-levels-k.false (at ∙ e))))
    ]

pub loop-l-preserved : goal.loop-l-preserved
loop-l-preserved c =
    let D = cut_by c.args.flat.now c.args.graph.now in
    let ps : List (List ℕ) = c.args.pieces.now in
    let l : ℕ = c.loop-l.l in
    let front : List (List ℕ) = flat_map (at_level D) (range_with_len 1 l) in
    let all : take c.loop-k.k ps ≡ ps = take_all c.loop-k.k ps (omega (arith, c.loop-k-test.false, c.len-k-end.ensures)) in
    c.loop-k.invariant ∙ ap (λ (ds : List (List ℕ)). map (level D) (front ++ filter (λ c'. nat_eq (level D c') (l + 1)) ds)) (all ∙ c.requires.pieces) ∙ ap (map (level D)) (outer_more (at_level D) l)
