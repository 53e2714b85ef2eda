-- The words of a question.
use Rattle.std.proofs.Common.{◌≡◌, ℕ, zero, suc, ◌-◌, ◌≤◌, ◌<◌, Some, List, [], ◌∷◌, length, drop, take, get_or, sym, ap, ◌∙◌, arith}
use Rattle.std.proofs.lemmas.List.{take_all}
use Rattle.config_text.specs.declared.trees.TreeStart.{TreeStart}
use Rattle.config_text.specs.declared.trees.TreeStart.TheVariants.{Fork}
use Rattle.config_text.specs.Reading.{on, fork_rest, key_if, tree_by, tree_from, tree_key}
use Rattle.config_text.specs.Views.{tree_key_of}

first_word : (words : List (List ℕ)) (w : List ℕ) → 1 ≤ length words → w ≡ get_or words 0 w → words ≡ w ∷ take (length words - 1) (drop 1 words)
first_word [] w some e = absurd (omega arith)
first_word (v ∷ ws) w some e = let all : take (suc (length ws) - 1) ws ≡ ws = take_all _ ws (omega arith) in ap (λ k. k ∷ ws) (sym e) ∙ ap (λ l. w ∷ l) (sym all)

fork_at : (levels : ℕ) (w : List ℕ) (ws : List (List ℕ)) → 0 < levels → tree_key w ≡ Some key_if → fork_rest (tree_from (levels - 1)) ws ≡ tree_from levels (w ∷ ws)
fork_at zero w ws h k = absurd (omega arith)
fork_at (suc n) w ws h k = ap (λ m. fork_rest (tree_from m) ws) (let p : suc n - 1 ≡ n = omega arith in p) ∙ sym (ap (λ o. on o (λ k. tree_by k ws (tree_from n))) k)

-- what a question and its branches are read as
pub fork_read : (levels : ℕ) (words : List (List ℕ)) (w bytes : List ℕ) (start : TreeStart) → 1 ≤ length words → w ≡ get_or words 0 w → bytes ≡ w → Some (tree_key_of start) ≡ tree_key bytes → start ≡ Fork → 0 < levels → fork_rest (tree_from (levels - 1)) (take (length words - 1) (drop 1 words)) ≡ tree_from levels words
fork_read levels words w bytes start some e b k f h =
    fork_at levels w (take (length words - 1) (drop 1 words)) h (ap tree_key (sym b) ∙ sym k ∙ ap (λ s. Some (tree_key_of s)) f)
    ∙ ap (tree_from levels) (sym (first_word words w some e))
