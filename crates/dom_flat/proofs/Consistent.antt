-- A run and what holds between its values are the same.
use Rattle.std.proofs.Common.{◌≡◌, ℕ, ◌+◌, ◌<◌, true, List, [], length, map, sym, ap, ◌∙◌, subst, arith}
use Rattle.std.proofs.lemmas.List.{length-map, length-append, length-replicate}
use Rattle.dom_words.specs.State.{Hash, Outcome}
use Rattle.dom_flat.specs.Form.{FlatForm}
use Rattle.dom_flat.specs.Kept.{are_after, are_below, are_flanked, are_known, entered, values_of}
use Rattle.dom_flat.specs.Laws.{RunIsConsistent, outcome_by}
use Rattle.dom_flat.specs.Lines.{makes}
use Rattle.dom_flat.specs.Meaning.{HoldTogether, flat_entering, flat_outcome, operand_word, values_after}
use Rattle.dom_flat.proofs.Order.{AreEarlier}
use Rattle.dom_flat.proofs.After.{after_quiet, after_stored}
use Rattle.dom_flat.proofs.Facts.{all_known_below, are_earlier, fetched_first, stored_once}
use Rattle.dom_flat.proofs.Run.{arrays_after-same, made_alike, operands_earlier, run_arrays, run_makes, words_same}

abbrev outcome : List ℕ → List (List ℕ) → Outcome
outcome packet arrays = record { packet = packet; arrays = arrays }

module _ (f : FlatForm) (order : are_after (entered f.fields) f.lines ≡ true) (flanks : are_flanked [] [] f.lines ≡ true) (known : are_known (values_of f.fields f.lines) f.outputs ≡ true) where
  earlier : AreEarlier f.fields f.lines
  earlier = subst (λ (n : ℕ). AreEarlier n f.lines) (length-replicate f.fields true) (are_earlier (entered f.fields) f.lines order)

  outputs_below : are_below (f.fields + length f.lines) f.outputs ≡ true
  outputs_below =
      subst (λ (n : ℕ). are_below n f.outputs ≡ true)
      (length-append (entered f.fields) (map makes f.lines) ∙ ap (λ (n : ℕ). n + length (map makes f.lines)) (length-replicate f.fields true) ∙ ap (λ (n : ℕ). f.fields + n) (length-map f.lines makes))
      (all_known_below (values_of f.fields f.lines) f.outputs known)

  module _ (hash : Hash) (packet : List ℕ) (state : List (List ℕ)) (fits : length packet ≡ f.fields) where
    abbrev run : ℕ → ℕ
    run = values_after hash (flat_entering packet state) f.lines

    earlier_here : AreEarlier (length packet) f.lines
    earlier_here = subst (λ (n : ℕ). AreEarlier n f.lines) (sym fits) earlier

    run_made : HoldTogether hash f.lines state packet run
    run_made = run_makes hash f.lines packet state earlier_here (fetched_first [] [] f.lines flanks)

    run_same : (val : ℕ → ℕ) → HoldTogether hash f.lines state packet val → (v : ℕ) → v < f.fields + length f.lines → val v ≡ run v
    run_same val m v h =
        made_alike hash f.lines packet state val run earlier_here m run_made (v + 1) v (omega arith) (omega arith)

    run_outcome : (val : ℕ → ℕ) → HoldTogether hash f.lines state packet val → flat_outcome hash f.lines f.outputs packet state ≡ outcome_by f state val
    run_outcome val m =
        let agree = operands_earlier (f.fields + length f.lines) run val (λ v h. sym (run_same val m v h)) f.outputs outputs_below in
        ap (λ (ws : List ℕ). outcome ws (flat_outcome hash f.lines f.outputs packet state).arrays) (words_same run val f.outputs agree)
        ∙ ap (outcome (map (λ o. operand_word o val) f.outputs))
        (run_arrays hash (flat_entering packet state) f.lines earlier_here ∙ arrays_after-same run val (length packet) f.lines state (λ v h. sym (run_same val m v (omega arith))) earlier_here)

  pub is_consistent : RunIsConsistent f
  is_consistent = record {
    made = run_made;
    same = λ hash packet state val fits m. run_same hash packet state fits val m;
    outcome = λ hash packet state val fits m. run_outcome hash packet state fits val m;
    stays = λ state val a quiet. after_quiet val f.lines state a quiet;
    stored_at = λ state val j a i v at. after_stored val f.lines state j a i v (stored_once [] [] f.lines flanks) at;
  }
