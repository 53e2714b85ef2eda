-- How long the list of steps with their flanks is.
use Rattle.std.proofs.Common.{◌≡◌, ◌≢◌, ℕ, zero, suc, ◌+◌, ◌<◌, ◌≤◌, ◌^◌, Bool, true, false, nat_lt, List, [], ◌∷◌, ◌++◌, map, length, refl, ap, append_assoc, subst, arith, if◌then◌else◌}
use Rattle.std.specs.Prelude.{Option, Some, None}
use Rattle.std.proofs.lemmas.Bool.{ltb-true}
use Rattle.std.proofs.lemmas.List.{append-nil}
use Rattle.std.proofs.lemmas.List.Sums.{sum_by-cons}
use Rattle.dom_words.specs.declared.array.Array.{Array}
use Rattle.dom_ast.specs.declared.part.Place.{Place}
use Rattle.dom_ast.specs.Flanks.{FlankForm, flank_nodes, flanks_nodes, read, set, write}
use Rattle.dom_ast.specs.Kept.{Mention, Ranges, are_within, visit_within}
use Rattle.dom_ast.specs.PartSize.{part_nodes}
use Rattle.dom_ast.specs.Straight.{StepForm, step_visit, steps_nodes}
use Rattle.state_flanks.specs.WithFlanks.{is_mentioned, read_flank, read_flanks, step_mentions, target_index, with_flanks, with_reads, write_flank, write_flanks}
use Rattle.state_flanks.proofs.Follows.{all_before}
use Rattle.state_flanks.proofs.Mentions.{Equal, same, other, equal, are_below, mentioned_before, mentioned_now, mentioned_other, step_below}
use Rattle.state_flanks.proofs.Tests.{both}

-- how many of the first n arrays are not mentioned
abbrev one_unless : Bool → ℕ
one_unless true = 0
one_unless false = 1

abbrev unread : ℕ → List Mention → ℕ
unread zero before = 0
unread (suc n) before = unread n before + one_unless (is_mentioned before n)

unread_bound : (n : ℕ) (before : List Mention) → unread n before ≤ n
unread_bound zero before = omega arith
unread_bound (suc n) before = omega (arith, unread_bound n before, one (is_mentioned before n))
  where
    one : (t : Bool) → one_unless t ≤ 1
    one true = omega arith
    one false = omega arith

fewer : (t u : Bool) → (t ≡ true → u ≡ true) → one_unless u ≤ one_unless t
fewer true u more = let there : one_unless u ≡ 0 = ap one_unless (more refl) in omega arith
fewer false true more = omega arith
fewer false false more = omega arith

unread_after : (n : ℕ) (before : List Mention) (m : Mention) → unread n (before ++ m ∷ []) ≤ unread n before
unread_after zero before m = omega arith
unread_after (suc n) before m =
    omega (arith, unread_after n before m, fewer (is_mentioned before n) (is_mentioned (before ++ m ∷ []) n) (mentioned_before before (m ∷ []) n))

unread_less : (n : ℕ) (before : List Mention) (m : Mention) → m.array < n → is_mentioned before m.array ≡ false → suc (unread n (before ++ m ∷ [])) ≤ unread n before
unread_less zero before m lt new = absurd (omega arith)
unread_less (suc n) before m lt new = by_number (equal m.array n) (λ less. unread_less n before m less new)
  where
    by_number : Equal m.array n → (m.array < n → suc (unread n (before ++ m ∷ [])) ≤ unread n before) → suc (unread (suc n) (before ++ m ∷ [])) ≤ unread (suc n) before
    by_number (same q t) rest =
        let was : one_unless (is_mentioned before n) ≡ 1 = ap one_unless (subst (λ a. is_mentioned before a ≡ false) q new) in
        let is : one_unless (is_mentioned (before ++ m ∷ []) n) ≡ 0 = ap one_unless (subst (λ a. is_mentioned (before ++ m ∷ []) a ≡ true) q (mentioned_now before m)) in
        omega (arith, unread_after n before m)
    by_number (other q t) rest =
        let still : one_unless (is_mentioned (before ++ m ∷ []) n) ≡ one_unless (is_mentioned before n) = ap one_unless (mentioned_other before m n t) in
        let apart : m.array ≢ n = q in
        let less : m.array < n = omega arith in
        omega (arith, rest less)

flanks_nodes-cons : (item : FlankForm) (items : List FlankForm) → flanks_nodes (item ∷ items) ≡ flank_nodes item + flanks_nodes items
flanks_nodes-cons item items = sum_by-cons (λ n. n) (flank_nodes item) (map flank_nodes items)

flanks_nodes-append : (items rest : List FlankForm) → flanks_nodes (items ++ rest) ≡ flanks_nodes items + flanks_nodes rest
flanks_nodes-append [] rest = omega arith
flanks_nodes-append (item ∷ items) rest =
    omega (arith, flanks_nodes-append items rest, flanks_nodes-cons item items, flanks_nodes-cons item (items ++ rest))

steps_nodes-cons : (s : StepForm) (ss : List StepForm) → steps_nodes (s ∷ ss) ≡ suc (part_nodes s.value) + steps_nodes ss
steps_nodes-cons s ss =
    let size : StepForm → ℕ = λ s. suc (part_nodes s.value) in
    sum_by-cons (λ n. n) (size s) (map size ss)

read_flank_nodes : (n : ℕ) (before : List Mention) (m : Mention) → m.array < n → flanks_nodes (read_flank before m) + unread n (before ++ m ∷ []) ≤ unread n before
read_flank_nodes n before m lt = by_test (is_mentioned before m.array) refl
  where
    by_test : (t : Bool) → is_mentioned before m.array ≡ t → flanks_nodes (if t then [] else read m.array m.index ∷ []) + unread n (before ++ m ∷ []) ≤ unread n before
    by_test true there = omega (arith, unread_after n before m)
    by_test false new =
        omega (arith, unread_less n before m lt new, flanks_nodes-cons (read m.array m.index) [])

read_flanks_nodes : (n : ℕ) (before ms : List Mention) → are_below n ms ≡ true → flanks_nodes (read_flanks before ms) + unread n (before ++ ms) ≤ unread n before
read_flanks_nodes n before [] below =
    let same_list : unread n (before ++ []) ≡ unread n before = ap (unread n) (append-nil before) in omega arith
read_flanks_nodes n before (m ∷ ms) below =
    let each = both (nat_lt m.array n) (are_below n ms) below in
    let same_list : unread n ((before ++ m ∷ []) ++ ms) ≡ unread n (before ++ m ∷ ms) = ap (unread n) (append_assoc before (m ∷ []) ms) in
    omega (arith, read_flank_nodes n before m (ltb-true m.array n each.0), read_flanks_nodes n (before ++ m ∷ []) ms each.1, flanks_nodes-append (read_flank before m) (read_flanks (before ++ m ∷ []) ms))

with_reads_nodes : (r : Ranges) (before : List Mention) (ss : List StepForm) → are_within r (map step_visit ss) ≡ true → flanks_nodes (with_reads before ss) + unread r.arrays (all_before ss before) ≤ steps_nodes ss + unread r.arrays before
with_reads_nodes r before [] within = omega arith
with_reads_nodes r before (s ∷ ss) within =
    let each = both (visit_within r (step_visit s)) (are_within r (map step_visit ss)) within in
    let rest = with_reads (before ++ step_mentions s) ss in
    omega (arith, read_flanks_nodes r.arrays before (step_mentions s) (step_below r s each.0), with_reads_nodes r (before ++ step_mentions s) ss each.1, flanks_nodes-append (read_flanks before (step_mentions s)) (set s ∷ rest), flanks_nodes-cons (set s) rest, steps_nodes-cons s ss)

write_flank_nodes : (a : ℕ) (o : Option Place) → flanks_nodes (write_flank a o) ≤ 1
write_flank_nodes a None = omega arith
write_flank_nodes a (Some i) = omega (arith, flanks_nodes-cons (write a i) [])

write_flanks_nodes : (a : ℕ) (xs : List Array) (ss : List StepForm) → flanks_nodes (write_flanks a xs ss) ≤ length xs
write_flanks_nodes a [] ss = omega arith
write_flanks_nodes a (x ∷ xs) ss =
    omega (arith, write_flank_nodes a (target_index a ss), write_flanks_nodes (a + 1) xs ss, flanks_nodes-append (write_flank a (target_index a ss)) (write_flanks (a + 1) xs ss))

pub few_flanks : (r : Ranges) (xs : List Array) (ss : List StepForm) → r.arrays ≤ 32 → length xs ≤ 32 → are_within r (map step_visit ss) ≡ true → steps_nodes ss < 2 ^ 22 → flanks_nodes (with_flanks xs ss) < 2 ^ 23
few_flanks r xs ss few_arrays few_xs within few =
    omega (arith, with_reads_nodes r [] ss within, unread_bound r.arrays [], write_flanks_nodes 0 xs ss, flanks_nodes-append (with_reads [] ss) (write_flanks 0 xs ss))
