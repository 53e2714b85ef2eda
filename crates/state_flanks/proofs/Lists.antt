-- The tables give the flanks of the definition.
use Rattle.std.proofs.Common.{◌≡◌, ℕ, suc, ◌+◌, ◌<◌, Bool, true, false, nat_eq, nat_lt, List, [], ◌∷◌, ◌++◌, map, length, replicate, refl, sym, ap, append_assoc, ◌∙◌, subst, arith, if◌then◌else◌, length-set}
use Rattle.std.specs.Prelude.{Option, Some, None, slice_index_or, slice_set}
use Rattle.std.specs.Option.{option_or}
use Rattle.std.proofs.lemmas.Bool.{ltb-true}
use Rattle.std.proofs.lemmas.List.{append-nil, get_or-replicate, get_or-set_other, get_or-set_same, length-replicate}
use Rattle.dom_words.specs.declared.array.Array.{Array}
use Rattle.dom_ast.specs.declared.part.Goal.{Goal}
use Rattle.dom_ast.specs.declared.part.Goal.TheVariants as goal
use Rattle.dom_ast.specs.declared.part.Place.{Place}
use Rattle.dom_ast.specs.Flanks.{read, set}
use Rattle.dom_ast.specs.Kept.{Mention, Ranges, are_within, visit_within}
use Rattle.dom_ast.specs.Straight.{StepForm, step_visit}
use Rattle.state_flanks.specs.inner.Tables.{is_marked, marked, marks, new_writes, noted, reads, steps_noted, steps_reads}
use Rattle.state_flanks.specs.WithFlanks.{goal_index, is_mentioned, read_flank, read_flanks, step_mentions, target_index, with_reads, write_flank, write_flanks}
use Rattle.state_flanks.proofs.Mentions.{Equal, same, other, equal, are_below, mentioned_now, mentioned_other, step_below}
use Rattle.state_flanks.proofs.Tests.{both}

-- the table of n arrays says which are mentioned
record IsTable (n : ℕ) (before : List Mention) (table : List Bool) : Type 0 where
  size : length table ≡ n
  marks : (a : ℕ) → a < n → slice_index_or table a true ≡ is_mentioned before a

mark_table : (n : ℕ) (before : List Mention) (m : Mention) (table : List Bool) → m.array < n → IsTable n before table → IsTable n (before ++ m ∷ []) (marked table m)
mark_table n before m table lt s = by_test (is_marked table m) refl
  where
    marks_old : is_marked table m ≡ true → (a : ℕ) → Equal m.array a → a < n → slice_index_or table a true ≡ is_mentioned (before ++ m ∷ []) a
    marks_old e a (same q t) below =
        subst (λ b. slice_index_or table b true ≡ is_mentioned (before ++ m ∷ []) b) q (e ∙ sym (mentioned_now before m))
    marks_old e a (other q t) below = s.marks a below ∙ sym (mentioned_other before m a t)

    marks_new : (a : ℕ) → Equal m.array a → a < n → slice_index_or (slice_set table m.array true) a true ≡ is_mentioned (before ++ m ∷ []) a
    marks_new a (same q t) below =
        subst (λ b. slice_index_or (slice_set table m.array true) b true ≡ is_mentioned (before ++ m ∷ []) b) q (get_or-set_same table m.array true true (subst (λ k. m.array < k) (sym s.size) lt) ∙ sym (mentioned_now before m))
    marks_new a (other q t) below =
        get_or-set_other table m.array a true true (λ (r : a ≡ m.array). q (sym r)) ∙ s.marks a below ∙ sym (mentioned_other before m a t)

    by_test : (t : Bool) → is_marked table m ≡ t → IsTable n (before ++ m ∷ []) (if t then table else slice_set table m.array true)
    by_test true e = record { size = s.size; marks = λ a below. marks_old e a (equal m.array a) below }
    by_test false e =
        record { size = length-set table m.array true ∙ s.size; marks = λ a below. marks_new a (equal m.array a) below }

-- after mentions these flanks have come, and this is the table
record Matches (n : ℕ) (before ms : List Mention) (table : List Bool) : Type 0 where
  flanks : reads table ms ≡ read_flanks before ms
  after : IsTable n (before ++ ms) (marks table ms)

mentions_match : (n : ℕ) (before ms : List Mention) (table : List Bool) → are_below n ms ≡ true → IsTable n before table → Matches n before ms table
mentions_match n before [] table below s =
    record { flanks = refl; after = subst (λ b. IsTable n b table) (sym (append-nil before)) s }
mentions_match n before (m ∷ ms) table below s =
    let each = both (nat_lt m.array n) (are_below n ms) below in
    let lt : m.array < n = ltb-true m.array n each.0 in
    let rest = mentions_match n (before ++ m ∷ []) ms (marked table m) each.1 (mark_table n before m table lt s) in
    record {
      flanks = ap (λ (b : Bool). (if b then [] else read m.array m.index ∷ []) ++ reads (marked table m) ms) (s.marks m.array lt) ∙ ap (λ items. read_flank before m ++ items) rest.flanks;
      after = subst (λ b. IsTable n b (marks (marked table m) ms)) (append_assoc before (m ∷ []) ms) rest.after;
    }

steps_match : (r : Ranges) (before : List Mention) (ss : List StepForm) (table : List Bool) → are_within r (map step_visit ss) ≡ true → IsTable r.arrays before table → steps_reads table ss ≡ with_reads before ss
steps_match r before [] table within is = refl
steps_match r before (s ∷ ss) table within is =
    let each = both (visit_within r (step_visit s)) (are_within r (map step_visit ss)) within in
    let here = mentions_match r.arrays before (step_mentions s) table (step_below r s each.0) is in
    ap (λ items. items ++ (set s ∷ steps_reads (marks table (step_mentions s)) ss)) here.flanks
    ∙ ap (λ items. read_flanks before (step_mentions s) ++ (set s ∷ items)) (steps_match r (before ++ step_mentions s) ss (marks table (step_mentions s)) each.1 here.after)

empty_table : (n : ℕ) → IsTable n [] (replicate n false)
empty_table n =
    record { size = length-replicate n false; marks = λ a lt. get_or-replicate n a false true lt }

pub reads_are : (r : Ranges) (ss : List StepForm) → are_within r (map step_visit ss) ≡ true → steps_reads (replicate r.arrays false) ss ≡ with_reads [] ss
reads_are r ss within = steps_match r [] ss (replicate r.arrays false) within (empty_table r.arrays)

option_or_none : (o : Option Place) → option_or o None ≡ o
option_or_none None = refl
option_or_none (Some i) = refl

option_or_assoc : (o p q : Option Place) → option_or (option_or o p) q ≡ option_or o (option_or p q)
option_or_assoc None p q = refl
option_or_assoc (Some i) p q = refl

noted_size : (table : List (Option Place)) (g : Goal) → length (noted table g) ≡ length table
noted_size table (goal.Field f) = refl
noted_size table (goal.State a i) = length-set table a (option_or (slice_index_or table a None) (Some i))
noted_size table (goal.Fresh k) = refl

noted_at : (table : List (Option Place)) (g : Goal) (a : ℕ) → a < length table → slice_index_or (noted table g) a None ≡ option_or (slice_index_or table a None) (goal_index a g)
noted_at table (goal.Field f) a lt = sym (option_or_none (slice_index_or table a None))
noted_at table (goal.State b i) a lt = by_number (equal b a)
  where
    new : Option Place
    new = option_or (slice_index_or table b None) (Some i)

    by_number : Equal b a → slice_index_or (slice_set table b new) a None ≡ option_or (slice_index_or table a None) (if nat_eq b a then Some i else None)
    by_number (same q t) =
        subst (λ c. slice_index_or (slice_set table b new) c None ≡ option_or (slice_index_or table c None) (Some i)) q (get_or-set_same table b new None (subst (λ c. c < length table) (sym q) lt))
        ∙ ap (λ (c : Bool). option_or (slice_index_or table a None) (if c then Some i else None)) (sym t)
    by_number (other q t) =
        get_or-set_other table b a new None (λ (r : a ≡ b). q (sym r))
        ∙ sym (option_or_none (slice_index_or table a None))
        ∙ ap (λ (c : Bool). option_or (slice_index_or table a None) (if c then Some i else None)) (sym t)
noted_at table (goal.Fresh k) a lt = sym (option_or_none (slice_index_or table a None))

steps_noted_size : (table : List (Option Place)) (ss : List StepForm) → length (steps_noted table ss) ≡ length table
steps_noted_size table [] = refl
steps_noted_size table (s ∷ ss) = steps_noted_size (noted table s.target) ss ∙ noted_size table s.target

steps_noted_at : (table : List (Option Place)) (ss : List StepForm) (a : ℕ) → a < length table → slice_index_or (steps_noted table ss) a None ≡ option_or (slice_index_or table a None) (target_index a ss)
steps_noted_at table [] a lt = sym (option_or_none (slice_index_or table a None))
steps_noted_at table (s ∷ ss) a lt =
    steps_noted_at (noted table s.target) ss a (subst (λ n. a < n) (sym (noted_size table s.target)) lt)
    ∙ ap (λ o. option_or o (target_index a ss)) (noted_at table s.target a lt)
    ∙ option_or_assoc (slice_index_or table a None) (goal_index a s.target) (target_index a ss)

writes_match : (a : ℕ) (table : List (Option Place)) (xs : List Array) (ss : List StepForm) → length table ≡ length xs → ((k : ℕ) → k < length xs → slice_index_or table k None ≡ target_index (a + k) ss) → new_writes a table ≡ write_flanks a xs ss
writes_match a [] [] ss size at = refl
writes_match a [] (x ∷ xs) ss size at = let no_way : 0 ≡ suc (length xs) = size in absurd (omega arith)
writes_match a (o ∷ table) [] ss size at = let no_way : suc (length table) ≡ 0 = size in absurd (omega arith)
writes_match a (o ∷ table) (x ∷ xs) ss size at =
    let here : o ≡ target_index (a + 0) ss = at 0 (omega arith) in
    let start : a + 0 ≡ a = omega arith in
    let rest : length table ≡ length xs = omega arith in
    ap (λ p. write_flank a p ++ new_writes (a + 1) table) (here ∙ ap (λ k. target_index k ss) start)
    ∙ ap (λ items. write_flank a (target_index a ss) ++ items) (writes_match (a + 1) table xs ss rest (λ k lt. let next : a + suc k ≡ (a + 1) + k = omega arith in at (suc k) (omega arith) ∙ ap (λ j. target_index j ss) next))

pub writes_are : (xs : List Array) (ss : List StepForm) → new_writes 0 (steps_noted (replicate (length xs) None) ss) ≡ write_flanks 0 xs ss
writes_are xs ss =
    let table : List (Option Place) = replicate (length xs) None in
    let size : length table ≡ length xs = length-replicate (length xs) None in
    writes_match 0 (steps_noted table ss) xs ss (steps_noted_size table ss ∙ size) (λ k lt. let start : k ≡ 0 + k = omega arith in steps_noted_at table ss k (subst (λ n. k < n) (sym size) lt) ∙ ap (λ o. option_or o (target_index k ss)) (get_or-replicate (length xs) k None None lt) ∙ ap (λ j. target_index j ss) start)
