-- Each array is read once, before all that mentions it, and written once, at the index at which it was read.
use Rattle.std.proofs.Common.{◌≡◌, ◌≢◌, ℕ, ◌+◌, ◌≤◌, Bool, true, false, not, ◌&&◌, ◌||◌, nat_eq, List, [], ◌∷◌, ◌++◌, map, refl, sym, ap, append_assoc, ◌∙◌, subst, arith, if◌then◌else◌}
use Rattle.std.specs.Prelude.{Option, Some, None}
use Rattle.std.specs.List.{list_all}
use Rattle.std.specs.Option.{option_or}
use Rattle.std.proofs.lemmas.Bool.{false≢true, eq-eqb, ne_eqb}
use Rattle.std.proofs.lemmas.List.{append-nil}
use Rattle.dom_words.specs.Order.{is_read, is_read_at, is_written}
use Rattle.dom_words.specs.declared.array.Array.{Array}
use Rattle.dom_ast.specs.declared.part.Goal.{Goal}
use Rattle.dom_ast.specs.declared.part.Goal.TheVariants as goal
use Rattle.dom_ast.specs.declared.part.Place.{Place}
use Rattle.dom_ast.specs.declared.part.Place.TheVariants as place
use Rattle.dom_ast.specs.Flanks.{FlankForm, are_flanked, flank_within, flanks_within, read, set, write}
use Rattle.dom_ast.specs.Kept.{Mention, Ranges, are_within, goal_mentions, goal_within, have_one_index, is_same_place, mention, mentions_in, part_mentions, part_within, visit_within}
use Rattle.dom_ast.specs.Straight.{StepForm, step_visit}
use Rattle.state_flanks.specs.WithFlanks.{goal_index, is_mentioned, read_flank, read_flanks, step_mentions, target_index, with_flanks, with_reads, write_flank, write_flanks}
use Rattle.state_flanks.proofs.Follows.{all_before}
use Rattle.state_flanks.proofs.Mentions.{AllAt, Equal, same, other, equal, are_in_range, are_mentioned_after, at_first, at_parts, first_index, is_in_range, mentioned_after, mentioned_before, mentioned_now, mentioned_other, step_in_range, steps_mentions}
use Rattle.state_flanks.proofs.Tests.{all_weaker, both, false_not, join, join_parts, or_left, or_right}

is_same_place-refl : (i : Place) → is_same_place i i ≡ true
is_same_place-refl (place.Word w) = eq-eqb w w refl
is_same_place-refl (place.Field f) = eq-eqb f f refl

-- the arrays that are mentioned are those that have been read, each at its index
record Listed (index : ℕ → Place) (before reads : List Mention) : Type 0 where
  reads_are : (a : ℕ) → is_read reads a ≡ is_mentioned before a
  at : AllAt index reads

read_at : (index : ℕ → Place) (reads : List Mention) (a : ℕ) → AllAt index reads → is_read reads a ≡ true → is_read_at is_same_place reads a (index a) ≡ true
read_at index [] a at there = absurd (false≢true there)
read_at index (m ∷ reads) a at there = by_number (equal m.array a) (read_at index reads a at.1)
  where
    by_number : Equal m.array a → (is_read reads a ≡ true → is_read_at is_same_place reads a (index a) ≡ true) → ((nat_eq m.array a && is_same_place m.index (index a)) || is_read_at is_same_place reads a (index a)) ≡ true
    by_number (same q t) rest =
        or_left (nat_eq m.array a && is_same_place m.index (index a)) (is_read_at is_same_place reads a (index a)) (join (nat_eq m.array a) (is_same_place m.index (index a)) t (ap (λ i. is_same_place i (index a)) (at.0 ∙ ap index q) ∙ is_same_place-refl (index a)))
    by_number (other q t) rest =
        or_right (nat_eq m.array a && is_same_place m.index (index a)) (is_read_at is_same_place reads a (index a)) (rest (ap (λ b. b || is_read reads a) (sym t) ∙ there))

module _ (index : ℕ → Place) where
  listed_known : (before reads : List Mention) (m : Mention) → is_mentioned before m.array ≡ true → Listed index before reads → Listed index (before ++ m ∷ []) reads
  listed_known before reads m there s =
      record { reads_are = λ a. s.reads_are a ∙ still a (equal m.array a); at = s.at }
    where
      still : (a : ℕ) → Equal m.array a → is_mentioned before a ≡ is_mentioned (before ++ m ∷ []) a
      still a (same q t) = subst (λ b. is_mentioned before b ≡ is_mentioned (before ++ m ∷ []) b) q (there ∙ sym (mentioned_now before m))
      still a (other q t) = sym (mentioned_other before m a t)

  listed_new : (before reads : List Mention) (m : Mention) → m.index ≡ index m.array → Listed index before reads → Listed index (before ++ m ∷ []) (m ∷ reads)
  listed_new before reads m at s =
      record { reads_are = λ a. now a (equal m.array a); at = (at, s.at) }
    where
      now : (a : ℕ) → Equal m.array a → (nat_eq m.array a || is_read reads a) ≡ is_mentioned (before ++ m ∷ []) a
      now a (same q t) =
          ap (λ b. b || is_read reads a) t ∙ subst (λ b. true ≡ is_mentioned (before ++ m ∷ []) b) q (sym (mentioned_now before m))
      now a (other q t) = ap (λ b. b || is_read reads a) t ∙ s.reads_are a ∙ sym (mentioned_other before m a t)

  -- read flanks before what is flanked after them
  reads_flanked : (before ms reads : List Mention) (writes : List ℕ) (rest : List FlankForm) → AllAt index ms → Listed index before reads → ((later : List Mention) → Listed index (before ++ ms) later → are_flanked later writes rest ≡ true) → are_flanked reads writes (read_flanks before ms ++ rest) ≡ true
  reads_flanked before [] reads writes rest at s next =
      next reads (subst (λ b. Listed index b reads) (sym (append-nil before)) s)
  reads_flanked before (m ∷ ms) reads writes rest at s next =
      subst (λ items. are_flanked reads writes items ≡ true) (sym (append_assoc (read_flank before m) (read_flanks (before ++ m ∷ []) ms) rest)) (by_test (is_mentioned before m.array) refl (λ reads l. reads_flanked (before ++ m ∷ []) ms reads writes rest at.1 l later_then))
    where
      later_then : (later : List Mention) → Listed index ((before ++ m ∷ []) ++ ms) later → are_flanked later writes rest ≡ true
      later_then later l = next later (subst (λ b. Listed index b later) (append_assoc before (m ∷ []) ms) l)

      by_test : (t : Bool) → is_mentioned before m.array ≡ t → ((reads : List Mention) → Listed index (before ++ m ∷ []) reads → are_flanked reads writes (read_flanks (before ++ m ∷ []) ms ++ rest) ≡ true) → are_flanked reads writes ((if t then [] else read m.array m.index ∷ []) ++ (read_flanks (before ++ m ∷ []) ms ++ rest)) ≡ true
      by_test true there flank = flank reads (listed_known before reads m there s)
      by_test false new flank =
          join (not (is_read reads m.array)) (are_flanked (m ∷ reads) writes (read_flanks (before ++ m ∷ []) ms ++ rest)) (false_not (is_read reads m.array) (s.reads_are m.array ∙ new)) (flank (m ∷ reads) (listed_new before reads m at.0 s))

  steps_flanked : (before : List Mention) (ss : List StepForm) (reads : List Mention) (writes : List ℕ) (rest : List FlankForm) → AllAt index (steps_mentions ss) → Listed index before reads → ((later : List Mention) → Listed index (all_before ss before) later → are_flanked later writes rest ≡ true) → are_flanked reads writes (with_reads before ss ++ rest) ≡ true
  steps_flanked before [] reads writes rest at s next = next reads s
  steps_flanked before (step ∷ ss) reads writes rest at s next =
      let each = at_parts index (step_mentions step) (steps_mentions ss) at in
      let items = with_reads (before ++ step_mentions step) ss ++ rest in
      subst (λ items. are_flanked reads writes items ≡ true) (sym (append_assoc (read_flanks before (step_mentions step)) (set step ∷ with_reads (before ++ step_mentions step) ss) rest)) (reads_flanked before (step_mentions step) reads writes (set step ∷ items) each.0 s (λ later l. join (list_all (λ m. is_read later m.array) (step_mentions step)) (are_flanked later writes items) (all_weaker (λ m. is_mentioned (before ++ step_mentions step) m.array) (λ m. is_read later m.array) (λ m there. l.reads_are m.array ∙ there) (step_mentions step) (are_mentioned_after before (step_mentions step))) (steps_flanked (before ++ step_mentions step) ss later writes rest each.1 l next)))

  writes_flanked : (a : ℕ) (xs : List Array) (ss : List StepForm) (reads : List Mention) (writes : List ℕ) → ((b : ℕ) (i : Place) → target_index b ss ≡ Some i → is_read_at is_same_place reads b i ≡ true) → ((b : ℕ) → a ≤ b → is_written writes b ≡ false) → are_flanked reads writes (write_flanks a xs ss) ≡ true
  writes_flanked a [] ss reads writes read_there free = refl
  writes_flanked a (x ∷ xs) ss reads writes read_there free =
      by_target (target_index a ss) refl (λ writes free. writes_flanked (a + 1) xs ss reads writes read_there free)
    where
      free_after : (b : ℕ) → a + 1 ≤ b → (nat_eq b a || is_written writes b) ≡ false
      free_after b le =
          let ne : b ≢ a = λ (q : b ≡ a). omega arith in
          ap (λ t. t || is_written writes b) (ne_eqb b a ne) ∙ free b (omega arith)

      by_target : (o : Option Place) → target_index a ss ≡ o → ((writes : List ℕ) → ((b : ℕ) → a + 1 ≤ b → is_written writes b ≡ false) → are_flanked reads writes (write_flanks (a + 1) xs ss) ≡ true) → are_flanked reads writes (write_flank a o ++ write_flanks (a + 1) xs ss) ≡ true
      by_target None is flank = flank writes (λ b le. free b (omega arith))
      by_target (Some i) is flank =
          let rest = write_flanks (a + 1) xs ss in
          let stands = join (is_read_at is_same_place reads a i) (not (is_written writes a)) (read_there a i is) (false_not (is_written writes a) (free a (omega arith))) in
          join (is_read_at is_same_place reads a i && not (is_written writes a)) (are_flanked reads (a ∷ writes) rest) stands (flank (a ∷ writes) free_after)

  -- a target's array is mentioned, at its index
  record Target (ms : List Mention) (b : ℕ) (i : Place) : Type 0 where
    there : is_mentioned ms b ≡ true
    own : i ≡ index b

  goal_target : (g : Goal) (b : ℕ) (i : Place) → goal_index b g ≡ Some i → AllAt index (goal_mentions g) → Target (goal_mentions g) b i
  goal_target (goal.Field f) b i is at = absurd (cc)
  goal_target (goal.State c j) b i is at = by_number (equal c b)
    where
      by_number : Equal c b → Target (mention c j ∷ []) b i
      by_number (same q t) =
          let found : Some j ≡ Some i = ap (λ (x : Bool). if x then Some j else None) (sym t) ∙ is in
          let index_is : j ≡ i = cc in
          record { there = or_left (nat_eq c b) false t; own = sym index_is ∙ at.0 ∙ ap index q }
      by_number (other q t) =
          let found : None ≡ Some i = ap (λ (x : Bool). if x then Some j else None) (sym t) ∙ is in
          absurd (cc)
  goal_target (goal.Fresh k) b i is at = absurd (cc)

  step_target : (ss : List StepForm) (b : ℕ) (i : Place) → target_index b ss ≡ Some i → AllAt index (steps_mentions ss) → Target (steps_mentions ss) b i
  step_target [] b i is at = absurd (cc)
  step_target (s ∷ ss) b i is at = by_goal (goal_index b s.target) refl (λ found. step_target ss b i found each.1)
    where
      each : AllAt index (step_mentions s) × AllAt index (steps_mentions ss)
      each = at_parts index (step_mentions s) (steps_mentions ss) at

      by_goal : (o : Option Place) → goal_index b s.target ≡ o → (target_index b ss ≡ Some i → Target (steps_mentions ss) b i) → Target (steps_mentions (s ∷ ss)) b i
      by_goal None none rest =
          let found : target_index b ss ≡ Some i = ap (λ o. option_or o (target_index b ss)) (sym none) ∙ is in
          let later = rest found in
          record { there = mentioned_after (step_mentions s) (steps_mentions ss) b later.there; own = later.own }
      by_goal (Some j) some rest =
          let found : Some j ≡ Some i = ap (λ o. option_or o (target_index b ss)) (sym some) ∙ is in
          let here = goal_target s.target b i (some ∙ found) (at_parts index (part_mentions s.value) (goal_mentions s.target) each.0).1 in
          record { there = mentioned_before (step_mentions s) (steps_mentions ss) b (mentioned_after (part_mentions s.value) (goal_mentions s.target) b here.there); own = here.own }

all_before_is : (ss : List StepForm) (before : List Mention) → all_before ss before ≡ before ++ steps_mentions ss
all_before_is [] before = sym (append-nil before)
all_before_is (s ∷ ss) before =
    all_before_is ss (before ++ step_mentions s) ∙ append_assoc before (step_mentions s) (steps_mentions ss)

pub flanks_hold : (xs : List Array) (ss : List StepForm) → have_one_index (mentions_in (map step_visit ss)) ≡ true → are_flanked [] [] (with_flanks xs ss) ≡ true
flanks_hold xs ss one =
    let index = first_index (steps_mentions ss) in
    let at = at_first (steps_mentions ss) one in
    steps_flanked index [] ss [] [] (write_flanks 0 xs ss) at (record { reads_are = λ a. refl; at = tt }) (λ later l. writes_flanked index 0 xs ss later [] (λ b i is. let t = step_target index ss b i is at in subst (λ j. is_read_at is_same_place later b j ≡ true) (sym t.own) (read_at index later b l.at (l.reads_are b ∙ ap (λ ms. is_mentioned ms b) (all_before_is ss []) ∙ t.there))) (λ b le. refl))

-- the numbers in flanks are in range
module _ (r : Ranges) where
  read_flank_within : (before : List Mention) (m : Mention) → is_in_range r m ≡ true → flanks_within r (read_flank before m) ≡ true
  read_flank_within before m h = by_test (is_mentioned before m.array)
    where
      by_test : (t : Bool) → flanks_within r (if t then [] else read m.array m.index ∷ []) ≡ true
      by_test true = refl
      by_test false = join (is_in_range r m) true h refl

  read_flanks_within : (before ms : List Mention) → are_in_range r ms ≡ true → flanks_within r (read_flanks before ms) ≡ true
  read_flanks_within before [] h = refl
  read_flanks_within before (m ∷ ms) h =
      let each = both (is_in_range r m) (are_in_range r ms) h in
      join_parts (flank_within r) (read_flank before m) (read_flanks (before ++ m ∷ []) ms) (read_flank_within before m each.0) (read_flanks_within (before ++ m ∷ []) ms each.1)

  with_reads_within : (before : List Mention) (ss : List StepForm) → are_within r (map step_visit ss) ≡ true → flanks_within r (with_reads before ss) ≡ true
  with_reads_within before [] h = refl
  with_reads_within before (s ∷ ss) h =
      let each = both (visit_within r (step_visit s)) (are_within r (map step_visit ss)) h in
      join_parts (flank_within r) (read_flanks before (step_mentions s)) (set s ∷ with_reads (before ++ step_mentions s) ss) (read_flanks_within before (step_mentions s) (step_in_range r s each.0)) (join (visit_within r (step_visit s)) (flanks_within r (with_reads (before ++ step_mentions s) ss)) each.0 (with_reads_within (before ++ step_mentions s) ss each.1))

  goal_index_within : (g : Goal) (b : ℕ) → goal_within r g ≡ true → flanks_within r (write_flank b (goal_index b g)) ≡ true
  goal_index_within (goal.Field f) b h = refl
  goal_index_within (goal.State c j) b h = by_number (equal c b)
    where
      by_number : Equal c b → flanks_within r (write_flank b (if nat_eq c b then Some j else None)) ≡ true
      by_number (same q t) =
          ap (λ (x : Bool). flanks_within r (write_flank b (if x then Some j else None))) t ∙ subst (λ d. flanks_within r (write d j ∷ []) ≡ true) q (join (is_in_range r (mention c j)) true h refl)
      by_number (other q t) = ap (λ (x : Bool). flanks_within r (write_flank b (if x then Some j else None))) t
  goal_index_within (goal.Fresh k) b h = refl

  target_index_within : (ss : List StepForm) (b : ℕ) → are_within r (map step_visit ss) ≡ true → flanks_within r (write_flank b (target_index b ss)) ≡ true
  target_index_within [] b h = refl
  target_index_within (s ∷ ss) b h =
      by_goal (goal_index b s.target) (goal_index_within s.target b own) (target_index_within ss b each.1)
    where
      each : (visit_within r (step_visit s) ≡ true) × (are_within r (map step_visit ss) ≡ true)
      each = both (visit_within r (step_visit s)) (are_within r (map step_visit ss)) h

      own : goal_within r s.target ≡ true
      own = (both (part_within r s.value) (goal_within r s.target) each.0).1

      by_goal : (o : Option Place) → flanks_within r (write_flank b o) ≡ true → flanks_within r (write_flank b (target_index b ss)) ≡ true → flanks_within r (write_flank b (option_or o (target_index b ss))) ≡ true
      by_goal None fit rest = rest
      by_goal (Some i) fit rest = fit

  write_flanks_within : (a : ℕ) (xs : List Array) (ss : List StepForm) → are_within r (map step_visit ss) ≡ true → flanks_within r (write_flanks a xs ss) ≡ true
  write_flanks_within a [] ss h = refl
  write_flanks_within a (x ∷ xs) ss h =
      join_parts (flank_within r) (write_flank a (target_index a ss)) (write_flanks (a + 1) xs ss) (target_index_within ss a h) (write_flanks_within (a + 1) xs ss h)

  pub with_flanks_within : (xs : List Array) (ss : List StepForm) → are_within r (map step_visit ss) ≡ true → flanks_within r (with_flanks xs ss) ≡ true
  with_flanks_within xs ss h =
      join_parts (flank_within r) (with_reads [] ss) (write_flanks 0 xs ss) (with_reads_within [] ss h) (write_flanks_within 0 xs ss h)
