-- Write flanks put back what steps have written.
use Rattle.std.proofs.Common.{◌≡◌, ◌≢◌, ℕ, zero, suc, ◌+◌, ◌<◌, ◌≤◌, Bool, true, false, ◌||◌, nat_eq, nat_le, List, [], ◌∷◌, ◌++◌, map, length, refl, sym, ap, ◌∙◌, subst, arith, if◌then◌else◌, length-set}
use Rattle.std.specs.Prelude.{Option, Some, None, slice_index_or, slice_set}
use Rattle.std.specs.Option.{is_some, option_or}
use Rattle.std.proofs.lemmas.Bool.{false≢true, leb-true}
use Rattle.std.proofs.lemmas.List.{ext_get_or, get_or-set_other, get_or-set_same, length-map}
use Rattle.std.proofs.lemmas.List.Sums.{fold-append}
use Rattle.dom_words.specs.State.{Hash, IsStateOf, Outcome, are_lengths, array_of, element_of, is_length}
use Rattle.dom_words.specs.declared.array.Array.{Array}
use Rattle.dom_ast.specs.declared.part.Goal.{Goal}
use Rattle.dom_ast.specs.declared.part.Goal.TheVariants as goal
use Rattle.dom_ast.specs.declared.part.Place.{Place}
use Rattle.dom_ast.specs.Flanks.{FlankEnv, FlankForm, all_flanked, flank_entering, flank_outcome_of, flanked, flanked_outcome}
use Rattle.dom_ast.specs.Kept.{Mention, are_within, have_one_index, keep_indexes, mentions_in}
use Rattle.dom_ast.specs.Meaning.{Env, entering, outcome_of}
use Rattle.dom_ast.specs.Straight.{StepForm, all_stepped, step_visit, straight_outcome, straight_ranges}
use Rattle.state_flanks.specs.WithFlanks.{goal_index, target_index, with_flanks, with_reads, write_flank, write_flanks}
use Rattle.state_flanks.proofs.Follows.{Follows, all_before, all_seen, length_at, rewritten, seen, steps_follow}
use Rattle.state_flanks.proofs.Mentions.{Equal, same, other, equal, at_first, first_index, steps_mentions}
use Rattle.state_flanks.proofs.Tests.{both}

-- what a write flank leaves of the rest
record Wrote (f g : FlankEnv) : Type 0 where
  packets : g.packet ≡ f.packet
  words : g.words ≡ f.words
  found : g.found ≡ f.found
  count : length g.arrays ≡ length f.arrays

-- the words of array a after its write flank
abbrev after_write : FlankEnv → ℕ → Option Place → List ℕ
after_write f a None = array_of f.arrays a
after_write f a (Some i) = rewritten f.arrays a (f.found a) (f.words a)

after_write_alike : (f g : FlankEnv) (a : ℕ) (o : Option Place) → Wrote f g → array_of g.arrays a ≡ array_of f.arrays a → after_write g a o ≡ after_write f a o
after_write_alike f g a None w e = e
after_write_alike f g a (Some i) w e =
    ap (λ words. slice_set words (element_of words (g.found a)) (g.words a)) e
    ∙ ap (λ found. slice_set (array_of f.arrays a) (element_of (array_of f.arrays a) (found a)) (g.words a)) w.found
    ∙ ap (λ words. slice_set (array_of f.arrays a) (element_of (array_of f.arrays a) (f.found a)) (words a)) w.words

module _ (h : Hash) where
  flanked-append : (items rest : List FlankForm) (f : FlankEnv) → all_flanked h f (items ++ rest) ≡ all_flanked h (all_flanked h f items) rest
  flanked-append items rest f = fold-append (flanked h) f items rest

  wrote_one : (f : FlankEnv) (a : ℕ) (o : Option Place) → Wrote f (all_flanked h f (write_flank a o))
  wrote_one f a None = record { packets = refl; words = refl; found = refl; count = refl }
  wrote_one f a (Some i) =
      record { packets = refl; words = refl; found = refl; count = length-set f.arrays a (rewritten f.arrays a (f.found a) (f.words a)) }

  one_here : (f : FlankEnv) (a : ℕ) (o : Option Place) → a < length f.arrays → array_of (all_flanked h f (write_flank a o)).arrays a ≡ after_write f a o
  one_here f a None lt = refl
  one_here f a (Some i) lt = get_or-set_same f.arrays a (rewritten f.arrays a (f.found a) (f.words a)) [] lt

  one_other : (f : FlankEnv) (a b : ℕ) (o : Option Place) → b ≢ a → array_of (all_flanked h f (write_flank a o)).arrays b ≡ array_of f.arrays b
  one_other f a b None ne = refl
  one_other f a b (Some i) ne = get_or-set_other f.arrays a b (rewritten f.arrays a (f.found a) (f.words a)) [] ne

  wrote_all : (f : FlankEnv) (a : ℕ) (xs : List Array) (ss : List StepForm) → Wrote f (all_flanked h f (write_flanks a xs ss))
  wrote_all f a [] ss = record { packets = refl; words = refl; found = refl; count = refl }
  wrote_all f a (x ∷ xs) ss =
      let first = wrote_one f a (target_index a ss) in
      let later = wrote_all (all_flanked h f (write_flank a (target_index a ss))) (a + 1) xs ss in
      subst (Wrote f) (sym (flanked-append (write_flank a (target_index a ss)) (write_flanks (a + 1) xs ss) f)) (record { packets = later.packets ∙ first.packets; words = later.words ∙ first.words; found = later.found ∙ first.found; count = later.count ∙ first.count })

  before_writes : (f : FlankEnv) (a : ℕ) (xs : List Array) (ss : List StepForm) (b : ℕ) → b < a → array_of (all_flanked h f (write_flanks a xs ss)).arrays b ≡ array_of f.arrays b
  before_writes f a [] ss b lt = refl
  before_writes f a (x ∷ xs) ss b lt =
      let now = all_flanked h f (write_flank a (target_index a ss)) in
      ap (λ g. array_of g.arrays b) (flanked-append (write_flank a (target_index a ss)) (write_flanks (a + 1) xs ss) f)
      ∙ before_writes now (a + 1) xs ss b (omega arith)
      ∙ one_other f a b (target_index a ss) (λ (q : b ≡ a). omega arith)

  writes_do : (f : FlankEnv) (a : ℕ) (xs : List Array) (ss : List StepForm) (b : ℕ) → a ≤ b → b < a + length xs → a + length xs ≤ length f.arrays → array_of (all_flanked h f (write_flanks a xs ss)).arrays b ≡ after_write f b (target_index b ss)
  writes_do f a [] ss b from to fit = absurd (omega arith)
  writes_do f a (x ∷ xs) ss b from to fit =
      ap (λ g. array_of g.arrays b) (flanked-append (write_flank a (target_index a ss)) (write_flanks (a + 1) xs ss) f)
      ∙ by_number (equal a b) (writes_do now (a + 1) xs ss b)
    where
      now : FlankEnv
      now = all_flanked h f (write_flank a (target_index a ss))

      wrote : Wrote f now
      wrote = wrote_one f a (target_index a ss)

      by_number : Equal a b → (a + 1 ≤ b → b < (a + 1) + length xs → (a + 1) + length xs ≤ length now.arrays → array_of (all_flanked h now (write_flanks (a + 1) xs ss)).arrays b ≡ after_write now b (target_index b ss)) → array_of (all_flanked h now (write_flanks (a + 1) xs ss)).arrays b ≡ after_write f b (target_index b ss)
      by_number (same q t) rest =
          subst (λ c. array_of (all_flanked h now (write_flanks (a + 1) xs ss)).arrays c ≡ after_write f c (target_index c ss)) q (before_writes now (a + 1) xs ss a (omega arith) ∙ one_here f a (target_index a ss) (omega arith))
      by_number (other q t) rest =
          let ne : b ≢ a = λ r. q (sym r) in
          let count : length now.arrays ≡ length f.arrays = wrote.count in
          let apart : a ≢ b = q in
          rest (omega arith) (omega arith) (omega arith)
          ∙ after_write_alike f now b (target_index b ss) wrote (one_other f a b (target_index a ss) ne)

  -- after all write flanks the packet and the arrays are those of the steps
  written_back : (index : ℕ → Place) (entered : List (List ℕ)) (before : List Mention) (done : ℕ → Bool) (f : FlankEnv) (e : Env) (xs : List Array) (ss : List StepForm) → length entered ≡ length xs → ((b : ℕ) → done b ≡ is_some (target_index b ss)) → Follows index entered before done f e → (all_flanked h f (write_flanks 0 xs ss)).arrays ≡ e.arrays
  written_back index entered before done f e xs ss count done_is s =
      ext_get_or [] last e.arrays (size ∙ sym serial) (λ b lt. at b lt (target_index b ss) refl)
    where
      last : List (List ℕ)
      last = (all_flanked h f (write_flanks 0 xs ss)).arrays

      serial : length e.arrays ≡ length entered
      serial = sym (length-map e.arrays length) ∙ ap length s.lengths ∙ length-map entered length

      size : length last ≡ length entered
      size = (wrote_all f 0 xs ss).count ∙ ap length s.arrays

      left : (b : ℕ) (o : Option Place) → target_index b ss ≡ o → after_write f b o ≡ array_of e.arrays b
      left b None is =
          ap (λ arrays. array_of arrays b) s.arrays ∙ sym (s.unchanged b (done_is b ∙ ap is_some is))
      left b (Some i) is =
          ap (λ arrays. rewritten arrays b (f.found b) (f.words b)) s.arrays ∙ sym (s.changed b (done_is b ∙ ap is_some is))

      at : (b : ℕ) → b < length last → (o : Option Place) → target_index b ss ≡ o → array_of last b ≡ array_of e.arrays b
      at b lt o is =
          let all : length last ≡ length entered = size in
          let own : length f.arrays ≡ length entered = ap length s.arrays in
          writes_do f 0 xs ss b (omega arith) (omega arith) (omega arith) ∙ left b (target_index b ss) refl

or_some : (b : Bool) → (b || true) ≡ true
or_some true = refl
or_some false = refl

or_none : (b : Bool) → b ≡ (b || false)
or_none true = refl
or_none false = refl

-- the targets that were seen are those that have an index
all_seen_is : (ss : List StepForm) (done : ℕ → Bool) (b : ℕ) → all_seen ss done b ≡ (done b || is_some (target_index b ss))
all_seen_is [] done b = or_none (done b)
all_seen_is (s ∷ ss) done b = all_seen_is ss (seen s.target done) b ∙ by_target s.target
  where
    by_target : (g : Goal) → (seen g done b || is_some (target_index b ss)) ≡ (done b || is_some (option_or (goal_index b g) (target_index b ss)))
    by_target (goal.Field f) = refl
    by_target (goal.State a i) = by_test (nat_eq a b)
      where
        by_test : (t : Bool) → ((t || done b) || is_some (target_index b ss)) ≡ (done b || is_some (option_or (if t then Some i else None) (target_index b ss)))
        by_test true = sym (or_some (done b))
        by_test false = refl
    by_target (goal.Fresh k) = refl

some_word : (xs : List Array) (a : ℕ) → are_lengths xs ≡ true → a < length xs → 1 ≤ slice_index_or (map (λ (array : Array). array.length) xs) a 0
some_word [] a lengths lt = absurd (omega arith)
some_word (x ∷ xs) zero lengths lt =
    let here = both (is_length x.length) (are_lengths xs) lengths in
    leb-true 1 x.length (both (nat_le 1 x.length) (nat_le x.length 1048576) here.0).0
some_word (x ∷ xs) (suc a) lengths lt = some_word xs a (both (is_length x.length) (are_lengths xs) lengths).1 (omega arith)

state_count : (xs : List Array) (state : List (List ℕ)) → IsStateOf xs state → length state ≡ length xs
state_count xs state is =
    sym (length-map state length) ∙ ap length is ∙ length-map xs (λ (array : Array). array.length)

-- a state of the arrays has a word in each
fits : (xs : List Array) (state : List (List ℕ)) → IsStateOf xs state → are_lengths xs ≡ true → (a : ℕ) → a < length xs → (a < length state) × (1 ≤ length (array_of state a))
fits xs state is lengths a lt =
    let count : length state ≡ length xs = state_count xs state is in
    (subst (λ n. a < n) (sym count) lt, subst (λ n. 1 ≤ n) (sym (length_at state a ∙ ap (λ ls. slice_index_or ls a 0) is)) (some_word xs a lengths lt))

start : (index : ℕ → Place) (packet : List ℕ) (state : List (List ℕ)) → Follows index state [] (λ b. false) (flank_entering packet state) (entering packet state)
start index packet state = record {
  packets = refl;
  names = refl;
  arrays = refl;
  lengths = refl;
  found = λ a there. absurd (false≢true there);
  words = λ a there. absurd (false≢true there);
  changed = λ a d. absurd (false≢true d);
  unchanged = λ a d. refl;
  known = λ a d. absurd (false≢true d);
}

outcome_alike : (f : FlankEnv) (e : Env) → f.packet ≡ e.packet → f.arrays ≡ e.arrays → flank_outcome_of f ≡ outcome_of e
outcome_alike f e p a =
    let made : List ℕ → List (List ℕ) → Outcome = λ packet arrays. record { packet = packet; arrays = arrays } in
    ap (λ packet. made packet f.arrays) p ∙ ap (made e.packet) a

pub means_same : (fields names : ℕ) (xs : List Array) (ss : List StepForm) → are_lengths xs ≡ true → are_within (straight_ranges fields (length xs) names) (map step_visit ss) ≡ true → have_one_index (mentions_in (map step_visit ss)) ≡ true → keep_indexes [] (map step_visit ss) ≡ true → (h : Hash) (packet : List ℕ) (state : List (List ℕ)) → IsStateOf xs state → flanked_outcome h (with_flanks xs ss) packet state ≡ straight_outcome h ss packet state
means_same fields names xs ss lengths within one keep h packet state is =
    let index = first_index (steps_mentions ss) in
    let before = flank_entering packet state in
    let after = all_flanked h before (with_reads [] ss) in
    let steps = steps_follow h index state (straight_ranges fields (length xs) names) [] (λ b. false) before (entering packet state) ss (fits xs state is lengths) tt (at_first (steps_mentions ss) one) within keep (start index packet state) in
    let wrote = wrote_all h after 0 xs ss in
    ap flank_outcome_of (flanked-append h (with_reads [] ss) (write_flanks 0 xs ss) before)
    ∙ outcome_alike (all_flanked h after (write_flanks 0 xs ss)) (all_stepped h (entering packet state) ss) (wrote.packets ∙ steps.packets) (written_back h index state (all_before ss []) (all_seen ss (λ b. false)) after (all_stepped h (entering packet state) ss) xs ss (state_count xs state is) (λ b. all_seen_is ss (λ b. false) b) steps)
