use Rattle.std.proofs.Common.{◌≡◌, ◌<◌, ◌≤◌, ◌+◌, ◌∙◌, [], ℕ, Bool, List, false, nat_eq, length, get_or, sym, subst, ap, arith}
use Rattle.std.specs.List.{filter, list_any, range_with_len}
use Rattle.std.proofs.lemmas.List.{get_or_read}
use Rattle.codelets.specs.Cut.{line_uses, uses_codelet}
use Rattle.codelets.specs.ByRows.{cut_by}
use Rattle.codelets.proofs.Onces.{keep_more, skip_more}
use Rattle.codelets.proofs.Owned.{not_used, skip_to}
use Rattle.codelets.proofs.pieces.used_places.Goals as goal
use Rattle.codelets.proofs.pieces.used_places.Goals.{then-uses_piece+in_ok-push, else-uses_piece}

pub loop-place-init : goal.loop-place-init
loop-place-init c =
    let D = cut_by c.args.flat.now c.args.graph.now in
    let list : List (List ℕ) = c.args.list.now in
    let t : ℕ → Bool = λ j. uses_codelet D c.args.c.now (get_or list j []) in
    let first : ℕ = c.next_place-place.result in
    let within : first ≤ length list = subst (λ (n : ℕ). first ≤ n) c.len-end.ensures c.next_place-place.ensures.high in
    record {
      within = within;
      places =
          skip_to t 0 first c.new-places.result (omega arith) c.new-places.ensures (λ k low less.
          not_used (length c.args.flat.now.fields) (line_uses D) c.args.c.now c.in_ok-used.used c.args.owners.now list k (omega (arith, less, within)) c.in_ok-used.ensures c.requires.owners
          (subst (λ (ns : List ℕ). list_any (λ a. nat_eq (get_or c.args.owners.now a 0) k) ns ≡ false) c.as_slice.ensures (c.next_place-place.ensures.least k low less)));
    }

pub loop-place-preserved : goal.loop-place-preserved
loop-place-preserved c =
    let D = cut_by c.args.flat.now c.args.graph.now in
    let list : List (List ℕ) = c.args.list.now in
    let t : ℕ → Bool = λ j. uses_codelet D c.args.c.now (get_or list j []) in
    let k : ℕ = c.loop-place.place in
    let h : k < length list = subst (λ (n : ℕ). k < n) c.len-end.ensures c.loop-place-test.true in
    let piece : c.as_slice-d.result.now ≡ get_or list k [] = c.as_slice-d.ensures ∙ get_or_read list k c.get.result.now h c.get.ensures.same [] in
    let test : t k ≡ c.uses_piece.result = ap (uses_codelet D c.args.c.now) (sym piece) ∙ sym c.uses_piece.ensures in
    let here : c.if-uses_piece.places ≡ filter t (range_with_len 0 (k + 1)) =
    elim c.if-uses_piece.branch [
      | then-uses_piece+in_ok-push w ↦ w.places-is ∙ w.in_ok-push.ensures.ok ∙ keep_more t k c.loop-place.places c.loop-place.invariant.places (test ∙ w.if-uses_piece.true)
      | else-uses_piece w ↦ w.places-is ∙ skip_more t k c.loop-place.places c.loop-place.invariant.places (test ∙ w.if-uses_piece.false)
    ] in
    let next : ℕ = c.next_place-place-in-loop-place.result in
    let within : next ≤ length list = subst (λ (n : ℕ). next ≤ n) c.len-end.ensures c.next_place-place-in-loop-place.ensures.high in
    record {
      within = within;
      places =
          skip_to t (k + 1) next c.if-uses_piece.places c.next_place-place-in-loop-place.ensures.low here (λ j low less.
          not_used (length c.args.flat.now.fields) (line_uses D) c.args.c.now c.in_ok-used.used c.args.owners.now list j (omega (arith, less, within)) c.in_ok-used.ensures c.requires.owners
          (subst (λ (ns : List ℕ). list_any (λ a. nat_eq (get_or c.args.owners.now a 0) j) ns ≡ false) c.as_slice-in-loop-place-2.ensures (c.next_place-place-in-loop-place.ensures.least j low less)));
    }
