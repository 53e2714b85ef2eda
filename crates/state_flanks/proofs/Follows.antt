-- Steps between flanks do what the steps do: the index that a read flank finds is the index at each later access.
use Rattle.std.proofs.Common.{◌≡◌, ◌≢◌, ℕ, zero, suc, ◌%◌, ◌<◌, ◌≤◌, Bool, true, false, not, ◌||◌, nat_eq, nat_lt, List, [], ◌∷◌, ◌++◌, map, length, refl, sym, ap, append_assoc, ◌∙◌, subst, arith, if◌then◌else◌, length-set}
use Rattle.std.specs.Prelude.{slice_index, slice_index_or, slice_set, Some}
use Rattle.std.proofs.Math.Seq.{map-set_same}
use Rattle.std.proofs.lemmas.Bool.{false≢true, eq-eqb, ne_eqb, ltb-true}
use Rattle.std.proofs.lemmas.List.{append-nil, get_or-set_other, get_or-set_same, length-map, set-set}
use Rattle.std.proofs.lemmas.List.Sums.{fold-append}
use Rattle.dom_words.specs.Operators.{bin_word, chosen, un_word}
use Rattle.dom_words.specs.State.{Hash, array_of, element_of, fetched}
use Rattle.dom_ast.specs.declared.part.Goal.{Goal}
use Rattle.dom_ast.specs.declared.part.Goal.TheVariants as goal
use Rattle.dom_ast.specs.declared.part.Place.{Place}
use Rattle.dom_ast.specs.declared.part.Place.TheVariants as place
use Rattle.dom_ast.specs.Flanks.{FlankEnv, FlankForm, all_flanked, flank_assigned, flank_names, flanked, read, set}
use Rattle.dom_ast.specs.Kept.{Mention, Ranges, are_within, changes_none, goal_mentions, is_same_place, keep_indexes, mention, ops_mentions, part_mentions, parts_mentions, visit_within}
use Rattle.dom_ast.specs.Meaning.{Env, assigned, folded, names_in, place_word, put, value, value_in, values}
use Rattle.dom_ast.specs.Resolved.{PartForm, number, field, state, fresh, made, call, un, chain, choice, PartForms, no_parts, part, OpForms, no_ops, op}
use Rattle.dom_ast.specs.Straight.{StepForm, all_stepped, step_visit, stepped}
use Rattle.state_flanks.specs.WithFlanks.{is_mentioned, read_flank, read_flanks, step_mentions, with_reads}
use Rattle.state_flanks.proofs.Mentions.{AllAt, Equal, same, other, equal, are_below, are_mentioned, are_mentioned_after, at_join, at_parts, mentioned_after, mentioned_before, mentioned_now, mentioned_other, no_index_at, step_below, steps_mentions}
use Rattle.state_flanks.proofs.Tests.{both, both_parts, not_true, or_false, or_left}

put_same : (k w : ℕ) (f : ℕ → ℕ) → put k w f k ≡ w
put_same k w f = ap (λ (b : Bool). if b then w else f k) (eq-eqb k k refl)

put_other : (k w j : ℕ) (f : ℕ → ℕ) → j ≢ k → put k w f j ≡ f j
put_other k w j f ne = ap (λ (b : Bool). if b then w else f j) (ne_eqb j k ne)

pub is_false : (b : Bool) → (b ≡ true → ⊥) → b ≡ false
is_false true no_way = absurd (no_way refl)
is_false false no_way = refl

place_stays : (i : Place) (k w : ℕ) (packet : List ℕ) → not (is_same_place i (place.Field k)) ≡ true → place_word i (slice_set packet k w) ≡ place_word i packet
place_stays (place.Word v) k w packet h = refl
place_stays (place.Field j) k w packet h =
    get_or-set_other packet k j w 0 (λ (q : j ≡ k). false≢true (sym (not_true (nat_eq j k) h) ∙ eq-eqb j k q))

pub length_at : (arrays : List (List ℕ)) (a : ℕ) → length (array_of arrays a) ≡ slice_index_or (map length arrays) a 0
length_at [] a = refl
length_at (x ∷ xs) zero = refl
length_at (x ∷ xs) (suc a) = length_at xs a

below_length : (index n : ℕ) → 1 ≤ n → index % n < n
below_length index n some = omega arith

-- which arrays have been targets
abbrev pub seen : Goal → (ℕ → Bool) → ℕ → Bool
seen (goal.Field f) done = done
seen (goal.State a i) done = λ b. nat_eq a b || done b
seen (goal.Fresh k) done = done

abbrev pub all_seen : List StepForm → (ℕ → Bool) → ℕ → Bool
all_seen [] done = done
all_seen (s ∷ ss) done = all_seen ss (seen s.target done)

abbrev pub all_before : List StepForm → List Mention → List Mention
all_before [] before = before
all_before (s ∷ ss) before = all_before ss (before ++ step_mentions s)

-- the words of array a as entered, with another word at an index
abbrev pub rewritten : List (List ℕ) → ℕ → ℕ → ℕ → List ℕ
rewritten entered a x w = slice_set (array_of entered a) (element_of (array_of entered a) x) w

-- What holds between flanks and steps, for arrays that were entered and the index of each array: the arrays are read and
-- written by steps alone; of an array that is mentioned, its word and its index are what steps would find now; of a target
-- its words are the entered ones but for that word; the other arrays are the entered ones.
pub record Follows (index : ℕ → Place) (entered : List (List ℕ)) (before : List Mention) (done : ℕ → Bool) (f : FlankEnv) (e : Env) : Type 0 where
  pub packets : f.packet ≡ e.packet
  pub names : f.fresh ≡ e.fresh
  pub arrays : f.arrays ≡ entered
  pub lengths : map length e.arrays ≡ map length entered
  pub found : (a : ℕ) → is_mentioned before a ≡ true → f.found a ≡ place_word (index a) e.packet
  pub words : (a : ℕ) → is_mentioned before a ≡ true → f.words a ≡ fetched e.arrays a (place_word (index a) e.packet)
  pub changed : (a : ℕ) → done a ≡ true → array_of e.arrays a ≡ rewritten entered a (f.found a) (f.words a)
  pub unchanged : (a : ℕ) → done a ≡ false → array_of e.arrays a ≡ array_of entered a
  pub known : (a : ℕ) → done a ≡ true → is_mentioned before a ≡ true

module _ (h : Hash) (index : ℕ → Place) (entered : List (List ℕ)) where
  -- a further mention of an array
  read_known : (before : List Mention) (m : Mention) (done : ℕ → Bool) (f : FlankEnv) (e : Env) → is_mentioned before m.array ≡ true → Follows index entered before done f e → Follows index entered (before ++ m ∷ []) done f e
  read_known before m done f e there s = record {
    packets = s.packets;
    names = s.names;
    arrays = s.arrays;
    lengths = s.lengths;
    found = λ a now. s.found a (still a (equal m.array a) now);
    words = λ a now. s.words a (still a (equal m.array a) now);
    changed = s.changed;
    unchanged = s.unchanged;
    known = λ a d. mentioned_before before (m ∷ []) a (s.known a d);
  }
    where
      still : (a : ℕ) → Equal m.array a → is_mentioned (before ++ m ∷ []) a ≡ true → is_mentioned before a ≡ true
      still a (same q t) now = subst (λ b. is_mentioned before b ≡ true) q there
      still a (other q t) now = sym (mentioned_other before m a t) ∙ now

  -- the first mention of an array, with its read flank
  read_new : (before : List Mention) (m : Mention) (done : ℕ → Bool) (f : FlankEnv) (e : Env) → is_mentioned before m.array ≡ false → m.index ≡ index m.array → Follows index entered before done f e → Follows index entered (before ++ m ∷ []) done (flanked h f (read m.array m.index)) e
  read_new before m done f e new at s = record {
    packets = s.packets;
    names = s.names;
    arrays = s.arrays;
    lengths = s.lengths;
    found = λ b now. found_now b (equal m.array b) now;
    words = λ b now. words_now b (equal m.array b) now;
    changed = λ b d. s.changed b d ∙ ap (λ v. rewritten entered b v (f.words b)) (sym (put_other m.array x b f.found (apart b d))) ∙ ap (rewritten entered b (put m.array x f.found b)) (sym (put_other m.array word b f.words (apart b d)));
    unchanged = s.unchanged;
    known = λ b d. mentioned_before before (m ∷ []) b (s.known b d);
  }
    where
      x : ℕ
      x = place_word m.index f.packet

      word : ℕ
      word = fetched f.arrays m.array x

      x_is : x ≡ place_word (index m.array) e.packet
      x_is = ap (λ i. place_word i f.packet) at ∙ ap (place_word (index m.array)) s.packets

      not_done : done m.array ≡ true → ⊥
      not_done d = false≢true (sym new ∙ s.known m.array d)

      apart : (b : ℕ) → done b ≡ true → b ≢ m.array
      apart b d q = not_done (subst (λ c. done c ≡ true) q d)

      word_is : word ≡ fetched e.arrays m.array (place_word (index m.array) e.packet)
      word_is =
          ap (λ words. slice_index words (element_of words x)) (ap (λ arrays. array_of arrays m.array) s.arrays ∙ sym (s.unchanged m.array (is_false (done m.array) not_done)))
          ∙ ap (fetched e.arrays m.array) x_is

      found_now : (b : ℕ) → Equal m.array b → is_mentioned (before ++ m ∷ []) b ≡ true → put m.array x f.found b ≡ place_word (index b) e.packet
      found_now b (same q t) now = subst (λ c. put m.array x f.found c ≡ place_word (index c) e.packet) q (put_same m.array x f.found ∙ x_is)
      found_now b (other q t) now = put_other m.array x b f.found (λ r. q (sym r)) ∙ s.found b (sym (mentioned_other before m b t) ∙ now)

      words_now : (b : ℕ) → Equal m.array b → is_mentioned (before ++ m ∷ []) b ≡ true → put m.array word f.words b ≡ fetched e.arrays b (place_word (index b) e.packet)
      words_now b (same q t) now = subst (λ c. put m.array word f.words c ≡ fetched e.arrays c (place_word (index c) e.packet)) q (put_same m.array word f.words ∙ word_is)
      words_now b (other q t) now = put_other m.array word b f.words (λ r. q (sym r)) ∙ s.words b (sym (mentioned_other before m b t) ∙ now)

  read_follows : (before : List Mention) (m : Mention) (done : ℕ → Bool) (f : FlankEnv) (e : Env) → m.index ≡ index m.array → Follows index entered before done f e → Follows index entered (before ++ m ∷ []) done (all_flanked h f (read_flank before m)) e
  read_follows before m done f e at s = by_test (is_mentioned before m.array) refl
    where
      by_test : (t : Bool) → is_mentioned before m.array ≡ t → Follows index entered (before ++ m ∷ []) done (all_flanked h f (if t then [] else read m.array m.index ∷ [])) e
      by_test true there = read_known before m done f e there s
      by_test false new = read_new before m done f e new at s

  run-append : (items rest : List FlankForm) (f : FlankEnv) → all_flanked h f (items ++ rest) ≡ all_flanked h (all_flanked h f items) rest
  run-append items rest f = fold-append (flanked h) f items rest

  reads_follow : (before ms : List Mention) (done : ℕ → Bool) (f : FlankEnv) (e : Env) → AllAt index ms → Follows index entered before done f e → Follows index entered (before ++ ms) done (all_flanked h f (read_flanks before ms)) e
  reads_follow before [] done f e at s = subst (λ ms. Follows index entered ms done f e) (sym (append-nil before)) s
  reads_follow before (m ∷ ms) done f e at s =
      let first = all_flanked h f (read_flank before m) in
      let rest = read_flanks (before ++ m ∷ []) ms in
      let later = reads_follow (before ++ m ∷ []) ms done first e at.1 (read_follows before m done f e at.0 s) in
      subst (λ d. Follows index entered (before ++ m ∷ ms) done d e) (sym (run-append (read_flank before m) rest f)) (subst (λ ns. Follows index entered ns done (all_flanked h first rest) e) (append_assoc before (m ∷ []) ms) later)

  mutual
    value_follows : (before : List Mention) (done : ℕ → Bool) (f : FlankEnv) (e : Env) (p : PartForm) → Follows index entered before done f e → AllAt index (part_mentions p) → are_mentioned before (part_mentions p) ≡ true → value h (flank_names f) p ≡ value_in h e p
    value_follows before done f e (number w) s at there = refl
    value_follows before done f e (field k) s at there = ap (λ packet. slice_index packet k) s.packets
    value_follows before done f e (state a i) s at there =
        s.words a (both (is_mentioned before a) true there).0
        ∙ ap (λ j. fetched e.arrays a (place_word j e.packet)) (sym at.0)
    value_follows before done f e (fresh k) s at there = ap (λ names. names k) s.names
    value_follows before done f e (made k) s at there = refl
    value_follows before done f e (call unit ps) s at there = ap (h unit) (values_follow before done f e ps s at there)
    value_follows before done f e (un o p) s at there = ap (un_word o) (value_follows before done f e p s at there)
    value_follows before done f e (chain p os) s at there =
        let at_each = at_parts index (part_mentions p) (ops_mentions os) at in
        let each = both_parts (λ m. is_mentioned before m.array) (part_mentions p) (ops_mentions os) there in
        ap (λ w. folded h (flank_names f) w os) (value_follows before done f e p s at_each.0 each.0)
        ∙ folded_follow before done f e os (value_in h e p) s at_each.1 each.1
    value_follows before done f e (choice c p q) s at there =
        let test : Mention → Bool = λ m. is_mentioned before m.array in
        let at_each = at_parts index (part_mentions c) (part_mentions p ++ part_mentions q) at in
        let each = both_parts test (part_mentions c) (part_mentions p ++ part_mentions q) there in
        let at_sides = at_parts index (part_mentions p) (part_mentions q) at_each.1 in
        let sides = both_parts test (part_mentions p) (part_mentions q) each.1 in
        let names = flank_names f in
        ap (λ w. chosen w (value h names p) (value h names q)) (value_follows before done f e c s at_each.0 each.0)
        ∙ ap (λ w. chosen (value_in h e c) w (value h names q)) (value_follows before done f e p s at_sides.0 sides.0)
        ∙ ap (chosen (value_in h e c) (value_in h e p)) (value_follows before done f e q s at_sides.1 sides.1)

    values_follow : (before : List Mention) (done : ℕ → Bool) (f : FlankEnv) (e : Env) (ps : PartForms) → Follows index entered before done f e → AllAt index (parts_mentions ps) → are_mentioned before (parts_mentions ps) ≡ true → values h (flank_names f) ps ≡ values h (names_in e) ps
    values_follow before done f e no_parts s at there = refl
    values_follow before done f e (part p ps) s at there =
        let at_each = at_parts index (part_mentions p) (parts_mentions ps) at in
        let each = both_parts (λ m. is_mentioned before m.array) (part_mentions p) (parts_mentions ps) there in
        ap (λ w. w ∷ values h (flank_names f) ps) (value_follows before done f e p s at_each.0 each.0)
        ∙ ap (λ ws. value_in h e p ∷ ws) (values_follow before done f e ps s at_each.1 each.1)

    folded_follow : (before : List Mention) (done : ℕ → Bool) (f : FlankEnv) (e : Env) (os : OpForms) (w : ℕ) → Follows index entered before done f e → AllAt index (ops_mentions os) → are_mentioned before (ops_mentions os) ≡ true → folded h (flank_names f) w os ≡ folded h (names_in e) w os
    folded_follow before done f e no_ops w s at there = refl
    folded_follow before done f e (op o p os) w s at there =
        let at_each = at_parts index (part_mentions p) (ops_mentions os) at in
        let each = both_parts (λ m. is_mentioned before m.array) (part_mentions p) (ops_mentions os) there in
        ap (λ v. folded h (flank_names f) (bin_word o w v) os) (value_follows before done f e p s at_each.0 each.0)
        ∙ folded_follow before done f e os (bin_word o w (value_in h e p)) s at_each.1 each.1

  -- a field that is no index gets a word
  field_follows : (before : List Mention) (done : ℕ → Bool) (f : FlankEnv) (e : Env) (k w : ℕ) → ((a : ℕ) → is_mentioned before a ≡ true → not (is_same_place (index a) (place.Field k)) ≡ true) → Follows index entered before done f e → Follows index entered before done (flank_assigned (goal.Field k) w f) (assigned (goal.Field k) w e)
  field_follows before done f e k w free s = record {
    packets = ap (λ packet. slice_set packet k w) s.packets;
    names = s.names;
    arrays = s.arrays;
    lengths = s.lengths;
    found = λ a there. s.found a there ∙ sym (place_stays (index a) k w e.packet (free a there));
    words = λ a there. s.words a there ∙ ap (fetched e.arrays a) (sym (place_stays (index a) k w e.packet (free a there)));
    changed = s.changed;
    unchanged = s.unchanged;
    known = s.known;
  }

  name_follows : (before : List Mention) (done : ℕ → Bool) (f : FlankEnv) (e : Env) (k w : ℕ) → Follows index entered before done f e → Follows index entered before done (flank_assigned (goal.Fresh k) w f) (assigned (goal.Fresh k) w e)
  name_follows before done f e k w s = record {
    packets = s.packets;
    names = ap (put k w) s.names;
    arrays = s.arrays;
    lengths = s.lengths;
    found = s.found;
    words = s.words;
    changed = s.changed;
    unchanged = s.unchanged;
    known = s.known;
  }

  -- an array that is mentioned gets a word at its index
  array_follows : (before : List Mention) (done : ℕ → Bool) (f : FlankEnv) (e : Env) (a : ℕ) (i : Place) (w : ℕ) → i ≡ index a → is_mentioned before a ≡ true → a < length entered → 1 ≤ length (array_of entered a) → Follows index entered before done f e → Follows index entered before (seen (goal.State a i) done) (flank_assigned (goal.State a i) w f) (assigned (goal.State a i) w e)
  array_follows before done f e a i w at there lt some s = record {
    packets = s.packets;
    names = s.names;
    arrays = s.arrays;
    lengths = map-set_same length e.arrays a (slice_set A el w) [] (length-set A el w) ∙ s.lengths;
    found = s.found;
    words = λ b yes_b. words_now b (equal a b) yes_b;
    changed = λ b d. changed_now b (equal a b) d;
    unchanged = λ b d. let parts = or_false (nat_eq a b) (done b) d in new_other b (λ q. false≢true (sym parts.0 ∙ eq-eqb a b q)) ∙ s.unchanged b parts.1;
    known = λ b d. known_now b (equal a b) d;
  }
    where
      x : ℕ
      x = place_word i e.packet

      A : List ℕ
      A = array_of e.arrays a

      el : ℕ
      el = element_of A x

      after : List (List ℕ)
      after = slice_set e.arrays a (slice_set A el w)

      x_is : x ≡ place_word (index a) e.packet
      x_is = ap (λ j. place_word j e.packet) at

      x_found : x ≡ f.found a
      x_found = x_is ∙ sym (s.found a there)

      count : length e.arrays ≡ length entered
      count = sym (length-map e.arrays length) ∙ ap length s.lengths ∙ length-map entered length

      size : length A ≡ length (array_of entered a)
      size = length_at e.arrays a ∙ ap (λ ls. slice_index_or ls a 0) s.lengths ∙ sym (length_at entered a)

      new_here : array_of after a ≡ slice_set A el w
      new_here = get_or-set_same e.arrays a (slice_set A el w) [] (subst (λ n. a < n) (sym count) lt)

      new_other : (b : ℕ) → (a ≡ b → ⊥) → array_of after b ≡ array_of e.arrays b
      new_other b ne = get_or-set_other e.arrays a b (slice_set A el w) [] (λ q. ne (sym q))

      fetched_here : fetched after a x ≡ w
      fetched_here =
          ap (λ words. slice_index words (element_of words x)) new_here
          ∙ ap (λ n. slice_index (slice_set A el w) (x % n)) (length-set A el w)
          ∙ get_or-set_same A el w 0 (below_length x (length A) (subst (λ n. 1 ≤ n) (sym size) some))

      words_now : (b : ℕ) → Equal a b → is_mentioned before b ≡ true → put a w f.words b ≡ fetched after b (place_word (index b) e.packet)
      words_now b (same q t) now =
          subst (λ c. put a w f.words c ≡ fetched after c (place_word (index c) e.packet)) q (put_same a w f.words ∙ sym fetched_here ∙ ap (fetched after a) x_is)
      words_now b (other q t) now =
          put_other a w b f.words (λ r. q (sym r)) ∙ s.words b now ∙ ap (λ words. slice_index words (element_of words (place_word (index b) e.packet))) (sym (new_other b q))

      el_is : el ≡ element_of (array_of entered a) (f.found a)
      el_is = ap (λ n. x % n) size ∙ ap (λ y. y % length (array_of entered a)) x_found

      rewritten_here : (d : Bool) → done a ≡ d → array_of after a ≡ rewritten entered a (f.found a) w
      rewritten_here true d =
          new_here ∙ ap (λ j. slice_set A j w) el_is ∙ ap (λ words. slice_set words (element_of (array_of entered a) (f.found a)) w) (s.changed a d) ∙ set-set (array_of entered a) (element_of (array_of entered a) (f.found a)) (f.words a) w
      rewritten_here false d =
          new_here ∙ ap (λ j. slice_set A j w) el_is ∙ ap (λ words. slice_set words (element_of (array_of entered a) (f.found a)) w) (s.unchanged a d)

      changed_now : (b : ℕ) → Equal a b → (nat_eq a b || done b) ≡ true → array_of after b ≡ rewritten entered b (f.found b) (put a w f.words b)
      changed_now b (same q t) d =
          subst (λ c. array_of after c ≡ rewritten entered c (f.found c) (put a w f.words c)) q (rewritten_here (done a) refl ∙ ap (rewritten entered a (f.found a)) (sym (put_same a w f.words)))
      changed_now b (other q t) d =
          new_other b q ∙ s.changed b (ap (λ c. c || done b) (sym t) ∙ d) ∙ ap (rewritten entered b (f.found b)) (sym (put_other a w b f.words (λ r. q (sym r))))

      known_now : (b : ℕ) → Equal a b → (nat_eq a b || done b) ≡ true → is_mentioned before b ≡ true
      known_now b (same q t) d = subst (λ c. is_mentioned before c ≡ true) q there
      known_now b (other q t) d = s.known b (ap (λ c. c || done b) (sym t) ∙ d)

  -- a target gets a word, after the step's mentions
  target_follows : (before : List Mention) (done : ℕ → Bool) (f : FlankEnv) (e : Env) (g : Goal) (p : PartForm) (w : ℕ) → AllAt index before → AllAt index (part_mentions p ++ goal_mentions g) → changes_none (before ++ part_mentions p) (Some g) ≡ true → ((a : ℕ) → is_mentioned (goal_mentions g) a ≡ true → (a < length entered) × (1 ≤ length (array_of entered a))) → Follows index entered (before ++ (part_mentions p ++ goal_mentions g)) done f e → Follows index entered (before ++ (part_mentions p ++ goal_mentions g)) (seen g done) (flank_assigned g w f) (assigned g w e)
  target_follows before done f e (goal.Field k) p w earlier at free fits s =
      field_follows (before ++ (part_mentions p ++ [])) done f e k w (λ a there. no_index_at index (before ++ part_mentions p) k a (at_join index before (part_mentions p) earlier (at_parts index (part_mentions p) [] at).0) free (ap (λ ms. is_mentioned (before ++ ms) a) (sym (append-nil (part_mentions p))) ∙ there)) s
  target_follows before done f e (goal.State a i) p w earlier at free fits s =
      let own = (at_parts index (part_mentions p) (mention a i ∷ []) at).1 in
      let fit = fits a (or_left (nat_eq a a) false (eq-eqb a a refl)) in
      array_follows (before ++ (part_mentions p ++ mention a i ∷ [])) done f e a i w own.0 (mentioned_after before (part_mentions p ++ mention a i ∷ []) a (mentioned_now (part_mentions p) (mention a i))) fit.0 fit.1 s
  target_follows before done f e (goal.Fresh k) p w earlier at free fits s =
      name_follows (before ++ (part_mentions p ++ [])) done f e k w s

  -- each array below n is there and has a word
  abbrev Fits : ℕ → Type 0
  Fits n = (a : ℕ) → a < n → (a < length entered) × (1 ≤ length (array_of entered a))

  mention_fits : (n : ℕ) (ms : List Mention) → Fits n → are_below n ms ≡ true → (a : ℕ) → is_mentioned ms a ≡ true → (a < length entered) × (1 ≤ length (array_of entered a))
  mention_fits n [] fits below a there = absurd (false≢true there)
  mention_fits n (m ∷ ms) fits below a there = by_number (equal m.array a) (mention_fits n ms fits parts.1 a)
    where
      parts : (nat_lt m.array n ≡ true) × (are_below n ms ≡ true)
      parts = both (nat_lt m.array n) (are_below n ms) below

      by_number : Equal m.array a → (is_mentioned ms a ≡ true → (a < length entered) × (1 ≤ length (array_of entered a))) → (a < length entered) × (1 ≤ length (array_of entered a))
      by_number (same q t) rest = fits a (subst (λ b. b < n) q (ltb-true m.array n parts.0))
      by_number (other q t) rest = rest (ap (λ b. b || is_mentioned ms a) (sym t) ∙ there)

  step_follows : (n : ℕ) (before : List Mention) (done : ℕ → Bool) (f : FlankEnv) (e : Env) (s : StepForm) → Fits n → AllAt index before → AllAt index (step_mentions s) → are_below n (step_mentions s) ≡ true → changes_none (before ++ part_mentions s.value) (Some s.target) ≡ true → Follows index entered before done f e → Follows index entered (before ++ step_mentions s) (seen s.target done) (flanked h (all_flanked h f (read_flanks before (step_mentions s))) (set s)) (stepped h e s)
  step_follows n before done f e s fits earlier at below free follows =
      let g = s.target in
      let p = s.value in
      let now = all_flanked h f (read_flanks before (step_mentions s)) in
      let reads : Follows index entered (before ++ step_mentions s) done now e = reads_follow before (step_mentions s) done f e at follows in
      let there = (both_parts (λ m. is_mentioned (before ++ step_mentions s) m.array) (part_mentions p) (goal_mentions g) (are_mentioned_after before (step_mentions s))).0 in
      let word = value_follows (before ++ step_mentions s) done now e p reads (at_parts index (part_mentions p) (goal_mentions g) at).0 there in
      let own = (both_parts (λ m. nat_lt m.array n) (part_mentions p) (goal_mentions g) below).1 in
      subst (λ w. Follows index entered (before ++ step_mentions s) (seen g done) (flank_assigned g w now) (stepped h e s)) (sym word) (target_follows before done now e g p (value_in h e p) earlier at free (mention_fits n (goal_mentions g) fits own) reads)

  pub steps_follow : (r : Ranges) (before : List Mention) (done : ℕ → Bool) (f : FlankEnv) (e : Env) (ss : List StepForm) → Fits r.arrays → AllAt index before → AllAt index (steps_mentions ss) → are_within r (map step_visit ss) ≡ true → keep_indexes before (map step_visit ss) ≡ true → Follows index entered before done f e → Follows index entered (all_before ss before) (all_seen ss done) (all_flanked h f (with_reads before ss)) (all_stepped h e ss)
  steps_follow r before done f e [] fits earlier at within keep follows = follows
  steps_follow r before done f e (s ∷ ss) fits earlier at within keep follows =
      let at_each = at_parts index (step_mentions s) (steps_mentions ss) at in
      let each = both (visit_within r (step_visit s)) (are_within r (map step_visit ss)) within in
      let kept = both (changes_none (before ++ part_mentions s.value) (Some s.target)) (keep_indexes (before ++ step_mentions s) (map step_visit ss)) keep in
      let now = flanked h (all_flanked h f (read_flanks before (step_mentions s))) (set s) in
      let here = step_follows r.arrays before done f e s fits earlier at_each.0 (step_below r s each.0) kept.0 follows in
      let later = steps_follow r (before ++ step_mentions s) (seen s.target done) now (stepped h e s) ss fits (at_join index before (step_mentions s) earlier at_each.0) at_each.1 each.1 kept.1 here in
      subst (λ d. Follows index entered (all_before ss (before ++ step_mentions s)) (all_seen ss (seen s.target done)) d (all_stepped h (stepped h e s) ss)) (sym (run-append (read_flanks before (step_mentions s)) (set s ∷ with_reads (before ++ step_mentions s) ss) f)) later
