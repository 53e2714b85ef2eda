-- The steps mention what the walk through the program mentions, and change no index that it does not change.
use Rattle.std.proofs.Common.{◌≡◌, ℕ, ◌+◌, Bool, true, not, List, [], ◌∷◌, ◌++◌, map, refl, sym, ap, append_assoc, ◌∙◌, subst}
use Rattle.std.specs.Prelude.{Option, Some, None}
use Rattle.std.specs.List.{list_all}
use Rattle.std.proofs.lemmas.Bool.{false≢true}
use Rattle.std.proofs.lemmas.Grind.{flat_map-append}
use Rattle.std.proofs.lemmas.List.{append-nil, map-append}
use Rattle.std.proofs.lemmas.List.Folds.{list_all-append}
use Rattle.dom_ast.specs.declared.part.Goal.{Goal}
use Rattle.dom_ast.specs.declared.part.Goal.TheVariants as goal
use Rattle.dom_ast.specs.declared.part.Place.TheVariants as place
use Rattle.dom_ast.specs.Kept.{Mention, Visit, act_visits, acts_visits, agree, guards_mention_none, bodies_visits, changes_none, condition, guard_visits, have_one_index, is_empty, guard_mentions_none, is_same_place, keep_indexes, mention, mentions_in, part_mentions, visit_mentions}
use Rattle.dom_ast.specs.Resolved.{PartForm, ActForm, assign, branch, ActForms, no_acts, act, BodyForm}
use Rattle.dom_ast.specs.Straight.{StepForm, step_visit}
use Rattle.branch_removal.specs.declared.branch.Branch.{Branch}
use Rattle.branch_removal.specs.declared.branch.Branch.TheVariants.{Then, Else}
use Rattle.branch_removal.specs.Branches.{act_ifs, act_steps, acts_ifs, acts_steps, bodies_steps, chosen_steps, guard_count, guard_step, guard_steps, guarded, guarded_at, guards, step, straight}
use Rattle.branch_removal.proofs.Tests.{both, both_parts, join}

-- each of the second mentions is one of the first: what holds of all the first holds of all the second
record Covers (ms ns : List Mention) : Type 0 where
  all : (test : Mention → Bool) → list_all test ms ≡ true → list_all test ns ≡ true

covers_refl : (ms : List Mention) → Covers ms ms
covers_refl ms = record { all = λ test h. h }

all-append : (test : Mention → Bool) (ms ns : List Mention) → list_all test ms ≡ true → list_all test ns ≡ true → list_all test (ms ++ ns) ≡ true
all-append test ms ns h k = list_all-append test ms ns ∙ join _ _ h k

covers-append : (ks ls ms ns : List Mention) → Covers ks ms → Covers ls ns → Covers (ks ++ ls) (ms ++ ns)
covers-append ks ls ms ns c d =
    record { all = λ test h. let parts = both_parts test ks ls h in all-append test ms ns (c.all test parts.0) (d.all test parts.1) }

abbrev visits_of : List StepForm → List Visit
visits_of ss = map step_visit ss

abbrev step_mentions : StepForm → List Mention
step_mentions s = visit_mentions (step_visit s)

abbrev steps_mentions : List StepForm → List Mention
steps_mentions ss = mentions_in (visits_of ss)

mentions-append : (ss ts : List StepForm) → steps_mentions (ss ++ ts) ≡ steps_mentions ss ++ steps_mentions ts
mentions-append ss ts = ap mentions_in (map-append step_visit ss ts) ∙ flat_map-append visit_mentions (visits_of ss) (visits_of ts)

covers_steps-append : (ks ls : List Mention) (ss ts : List StepForm) → Covers ks (steps_mentions ss) → Covers ls (steps_mentions ts) → Covers (ks ++ ls) (steps_mentions (ss ++ ts))
covers_steps-append ks ls ss ts c d =
    subst (Covers (ks ++ ls)) (sym (mentions-append ss ts)) (covers-append ks ls (steps_mentions ss) (steps_mentions ts) c d)

-- the mentions before a value's target, and all of a step, under a branch
guarded_value : (b : Branch) (f : ℕ) (p : PartForm) → Covers (part_mentions p) (part_mentions (guarded_at b (goal.Field f) p).value)
guarded_value (Then k) f p = record { all = λ test h. all-append test (part_mentions p) [] h refl }
guarded_value (Else k) f p = record { all = λ test h. h }

guarded_mentions : (b : Branch) (g : Goal) (p : PartForm) → Covers (step_mentions (step g p)) (step_mentions (guarded_at b g p))
guarded_mentions b (goal.Field f) p =
    covers-append (part_mentions p) [] (part_mentions (guarded_at b (goal.Field f) p).value) [] (guarded_value b f p) (covers_refl [])
guarded_mentions (Then k) (goal.State a i) p = record {
  all = λ test h. let parts = both_parts test (part_mentions p) (mention a i ∷ []) h in all-append test (part_mentions p ++ mention a i ∷ []) (mention a i ∷ []) h parts.1;
}
guarded_mentions (Else k) (goal.State a i) p = record {
  all = λ test h. let parts = both_parts test (part_mentions p) (mention a i ∷ []) h in all-append test (mention a i ∷ part_mentions p) (mention a i ∷ []) (all-append test (mention a i ∷ []) (part_mentions p) parts.1 parts.0) parts.1;
}
guarded_mentions (Then k) (goal.Fresh j) p = covers_refl (step_mentions (step (goal.Fresh j) p))
guarded_mentions (Else k) (goal.Fresh j) p = covers_refl (step_mentions (step (goal.Fresh j) p))

all_guarded_mentions : (b : Branch) (ms : List Mention) (ss : List StepForm) → Covers ms (steps_mentions ss) → Covers ms (steps_mentions (map (guarded b) ss))
all_guarded_mentions b ms ss c = record { all = λ test h. walk test ss (c.all test h) }
  where
    walk : (test : Mention → Bool) (ss : List StepForm) → list_all test (steps_mentions ss) ≡ true → list_all test (steps_mentions (map (guarded b) ss)) ≡ true
    walk test [] h = refl
    walk test (s ∷ ss) h =
        let parts = both_parts test (step_mentions s) (steps_mentions ss) h in
        all-append test (step_mentions (guarded b s)) (steps_mentions (map (guarded b) ss)) ((guarded_mentions b s.target s.value).all test parts.0) (walk test ss parts.1)

visits_mentions-append : (vs ws : List Visit) → mentions_in (vs ++ ws) ≡ mentions_in vs ++ mentions_in ws
visits_mentions-append vs ws = flat_map-append visit_mentions vs ws

mutual
  act_covers : (n : ℕ) (a : ActForm) → Covers (mentions_in (act_visits a)) (steps_mentions (act_steps n a))
  act_covers n (assign g p) = covers_refl (steps_mentions (act_steps n (assign g p)))
  act_covers n (branch c a b) =
      let ss = map (guarded (Then n)) (acts_steps (n + 1) a) in
      let ts = map (guarded (Else n)) (acts_steps (n + 1 + acts_ifs a) b) in
      let first = visit_mentions (condition c) in
      let ka = mentions_in (acts_visits a) in
      let kb = mentions_in (acts_visits b) in
      let sides = covers_steps-append ka kb ss ts (all_guarded_mentions (Then n) ka (acts_steps (n + 1) a) (acts_cover (n + 1) a)) (all_guarded_mentions (Else n) kb (acts_steps (n + 1 + acts_ifs a) b) (acts_cover (n + 1 + acts_ifs a) b)) in
      subst (λ ms. Covers (first ++ ms) (first ++ steps_mentions (ss ++ ts))) (sym (visits_mentions-append (acts_visits a) (acts_visits b))) (covers-append first (ka ++ kb) first (steps_mentions (ss ++ ts)) (covers_refl first) sides)

  acts_cover : (n : ℕ) (acts : ActForms) → Covers (mentions_in (acts_visits acts)) (steps_mentions (acts_steps n acts))
  acts_cover n no_acts = covers_refl []
  acts_cover n (act a rest) =
      subst (λ ms. Covers ms (steps_mentions (acts_steps n (act a rest)))) (sym (visits_mentions-append (act_visits a) (acts_visits rest))) (covers_steps-append (mentions_in (act_visits a)) (mentions_in (acts_visits rest)) (act_steps n a) (acts_steps (n + act_ifs a) rest) (act_covers n a) (acts_cover (n + act_ifs a) rest))

keep-parts : (ms : List Mention) (vs ws : List Visit) → keep_indexes ms (vs ++ ws) ≡ true → (keep_indexes ms vs ≡ true) × (keep_indexes (ms ++ mentions_in vs) ws ≡ true)
keep-parts ms [] ws h = (refl, subst (λ ms. keep_indexes ms ws ≡ true) (sym (append-nil ms)) h)
keep-parts ms (v ∷ vs) ws h =
    let parts = both (changes_none (ms ++ part_mentions v.value) v.target) (keep_indexes (ms ++ visit_mentions v) (vs ++ ws)) h in
    let rest = keep-parts (ms ++ visit_mentions v) vs ws parts.1 in
    (join _ _ parts.0 rest.0, subst (λ ms. keep_indexes ms ws ≡ true) (append_assoc ms (visit_mentions v) (mentions_in vs)) rest.1)

keep-join : (ms : List Mention) (vs ws : List Visit) → keep_indexes ms vs ≡ true → keep_indexes (ms ++ mentions_in vs) ws ≡ true → keep_indexes ms (vs ++ ws) ≡ true
keep-join ms [] ws h k = subst (λ ms. keep_indexes ms ws ≡ true) (append-nil ms) k
keep-join ms (v ∷ vs) ws h k =
    let parts = both (changes_none (ms ++ part_mentions v.value) v.target) (keep_indexes (ms ++ visit_mentions v) vs) h in
    join _ _ parts.0 (keep-join (ms ++ visit_mentions v) vs ws parts.1 (subst (λ ms. keep_indexes ms ws ≡ true) (sym (append_assoc ms (visit_mentions v) (mentions_in vs))) k))

keep_steps-join : (ms : List Mention) (ss ts : List StepForm) → keep_indexes ms (visits_of ss) ≡ true → keep_indexes (ms ++ steps_mentions ss) (visits_of ts) ≡ true → keep_indexes ms (visits_of (ss ++ ts)) ≡ true
keep_steps-join ms ss ts h k =
    subst (λ vs. keep_indexes ms vs ≡ true) (sym (map-append step_visit ss ts)) (keep-join ms (visits_of ss) (visits_of ts) h k)

changes_still : (ms ns : List Mention) (g : Goal) → Covers ms ns → changes_none ms (Some g) ≡ true → changes_none ns (Some g) ≡ true
changes_still ms ns (goal.Field f) c h = c.all (λ m. not (is_same_place m.index (place.Field f))) h
changes_still ms ns (goal.State a i) c h = refl
changes_still ms ns (goal.Fresh k) c h = refl

changes_guarded : (b : Branch) (ms ns : List Mention) (g : Goal) (p : PartForm) → Covers ms ns → changes_none (ms ++ part_mentions p) (Some g) ≡ true → changes_none (ns ++ part_mentions (guarded_at b g p).value) (Some (guarded_at b g p).target) ≡ true
changes_guarded b ms ns (goal.Field f) p c h =
    changes_still (ms ++ part_mentions p) (ns ++ part_mentions (guarded_at b (goal.Field f) p).value) (goal.Field f) (covers-append ms (part_mentions p) ns (part_mentions (guarded_at b (goal.Field f) p).value) c (guarded_value b f p)) h
changes_guarded b ms ns (goal.State a i) p c h = refl
changes_guarded b ms ns (goal.Fresh k) p c h = refl

keep_guarded : (b : Branch) (ms ns : List Mention) (ss : List StepForm) → Covers ms ns → keep_indexes ms (visits_of ss) ≡ true → keep_indexes ns (visits_of (map (guarded b) ss)) ≡ true
keep_guarded b ms ns [] c h = refl
keep_guarded b ms ns (s ∷ ss) c h =
    let parts = both (changes_none (ms ++ part_mentions s.value) (Some s.target)) (keep_indexes (ms ++ step_mentions s) (visits_of ss)) h in
    join _ _ (changes_guarded b ms ns s.target s.value c parts.0) (keep_guarded b (ms ++ step_mentions s) (ns ++ step_mentions (guarded b s)) ss (covers-append ms (step_mentions s) ns (step_mentions (guarded b s)) c (guarded_mentions b s.target s.value)) parts.1)

mutual
  act_keeps : (n : ℕ) (ms ns : List Mention) (a : ActForm) → Covers ms ns → keep_indexes ms (act_visits a) ≡ true → keep_indexes ns (visits_of (act_steps n a)) ≡ true
  act_keeps n ms ns (assign g p) c h =
      join _ _ (changes_still (ms ++ part_mentions p) (ns ++ part_mentions p) g (covers-append ms (part_mentions p) ns (part_mentions p) c (covers_refl (part_mentions p))) (both (changes_none (ms ++ part_mentions p) (Some g)) true h).0) refl
  act_keeps n ms ns (branch p a b) c h =
      let first = visit_mentions (condition p) in
      let parts = keep-parts (ms ++ first) (acts_visits a) (acts_visits b) h in
      let within = covers-append ms first ns first c (covers_refl first) in
      let ss = acts_steps (n + 1) a in
      let ts = acts_steps (n + 1 + acts_ifs a) b in
      let over_ss = all_guarded_mentions (Then n) (mentions_in (acts_visits a)) ss (acts_cover (n + 1) a) in
      let over = covers-append (ms ++ first) (mentions_in (acts_visits a)) (ns ++ first) (steps_mentions (map (guarded (Then n)) ss)) within over_ss in
      keep_steps-join (ns ++ first) (map (guarded (Then n)) ss) (map (guarded (Else n)) ts) (keep_guarded (Then n) (ms ++ first) (ns ++ first) ss within (acts_keep (n + 1) (ms ++ first) (ms ++ first) a (covers_refl (ms ++ first)) parts.0)) (keep_guarded (Else n) ((ms ++ first) ++ mentions_in (acts_visits a)) ((ns ++ first) ++ steps_mentions (map (guarded (Then n)) ss)) ts over (acts_keep (n + 1 + acts_ifs a) ((ms ++ first) ++ mentions_in (acts_visits a)) ((ms ++ first) ++ mentions_in (acts_visits a)) b (covers_refl ((ms ++ first) ++ mentions_in (acts_visits a))) parts.1))

  acts_keep : (n : ℕ) (ms ns : List Mention) (acts : ActForms) → Covers ms ns → keep_indexes ms (acts_visits acts) ≡ true → keep_indexes ns (visits_of (acts_steps n acts)) ≡ true
  acts_keep n ms ns no_acts c h = refl
  acts_keep n ms ns (act a rest) c h =
      let parts = keep-parts ms (act_visits a) (acts_visits rest) h in
      keep_steps-join ns (act_steps n a) (acts_steps (n + act_ifs a) rest) (act_keeps n ms ns a c parts.0) (acts_keep (n + act_ifs a) (ms ++ mentions_in (act_visits a)) (ns ++ steps_mentions (act_steps n a)) rest (covers-append ms (mentions_in (act_visits a)) ns (steps_mentions (act_steps n a)) c (act_covers n a)) parts.1)

covers_second : (ks ls ms : List Mention) → Covers ls ms → Covers (ks ++ ls) ms
covers_second ks ls ms c = record { all = λ test h. c.all test (both_parts test ks ls h).1 }

covers_first : (ks ls ms : List Mention) → Covers ks ms → Covers (ks ++ ls) ms
covers_first ks ls ms c = record { all = λ test h. c.all test (both_parts test ks ls h).0 }

chosen_mentions : (k n : ℕ) (guard : Option PartForm) (acts : ActForms) → Covers (mentions_in (acts_visits acts)) (steps_mentions (chosen_steps k guard (acts_steps n acts)))
chosen_mentions k n None acts = acts_cover n acts
chosen_mentions k n (Some p) acts =
    all_guarded_mentions (Then k) (mentions_in (acts_visits acts)) (acts_steps n acts) (acts_cover n acts)

chosen_keep : (k n : ℕ) (ms ns : List Mention) (guard : Option PartForm) (acts : ActForms) → Covers ms ns → keep_indexes ms (acts_visits acts) ≡ true → keep_indexes ns (visits_of (chosen_steps k guard (acts_steps n acts))) ≡ true
chosen_keep k n ms ns None acts c h = acts_keep n ms ns acts c h
chosen_keep k n ms ns (Some p) acts c h =
    keep_guarded (Then k) ms ns (acts_steps n acts) c (acts_keep n ms ms acts (covers_refl ms) h)

body_mentions : (k n : ℕ) (body : BodyForm) → Covers (mentions_in (guard_visits body.guard ++ acts_visits body.acts)) (steps_mentions (chosen_steps k body.guard (acts_steps n body.acts)))
body_mentions k n body =
    subst (λ ms. Covers ms (steps_mentions (chosen_steps k body.guard (acts_steps n body.acts)))) (sym (visits_mentions-append (guard_visits body.guard) (acts_visits body.acts))) (covers_second (mentions_in (guard_visits body.guard)) (mentions_in (acts_visits body.acts)) _ (chosen_mentions k n body.guard body.acts))

bodies_mentions : (k n : ℕ) (bodies : List BodyForm) → Covers (mentions_in (bodies_visits bodies)) (steps_mentions (bodies_steps k n bodies))
bodies_mentions k n [] = covers_refl []
bodies_mentions k n (body ∷ bodies) =
    let first = guard_visits body.guard ++ acts_visits body.acts in
    let ss = chosen_steps k body.guard (acts_steps n body.acts) in
    let ts = bodies_steps (k + guard_count body.guard) (n + acts_ifs body.acts) bodies in
    subst (λ ms. Covers ms (steps_mentions (ss ++ ts))) (sym (visits_mentions-append first (bodies_visits bodies))) (covers_steps-append (mentions_in first) (mentions_in (bodies_visits bodies)) ss ts (body_mentions k n body) (bodies_mentions (k + guard_count body.guard) (n + acts_ifs body.acts) bodies))

bodies_keep : (k n : ℕ) (ms ns : List Mention) (bodies : List BodyForm) → Covers ms ns → keep_indexes ms (bodies_visits bodies) ≡ true → keep_indexes ns (visits_of (bodies_steps k n bodies)) ≡ true
bodies_keep k n ms ns [] c h = refl
bodies_keep k n ms ns (body ∷ bodies) c h =
    let first = guard_visits body.guard ++ acts_visits body.acts in
    let ss = chosen_steps k body.guard (acts_steps n body.acts) in
    let parts = keep-parts ms first (bodies_visits bodies) h in
    let here = keep-parts ms (guard_visits body.guard) (acts_visits body.acts) parts.0 in
    keep_steps-join ns ss (bodies_steps (k + guard_count body.guard) (n + acts_ifs body.acts) bodies) (chosen_keep k n (ms ++ mentions_in (guard_visits body.guard)) ns body.guard body.acts (covers_first ms (mentions_in (guard_visits body.guard)) ns c) here.1) (bodies_keep (k + guard_count body.guard) (n + acts_ifs body.acts) (ms ++ mentions_in first) (ns ++ steps_mentions ss) bodies (covers-append ms (mentions_in first) ns (steps_mentions ss) c (body_mentions k n body)) parts.1)

empty_covers : (ms : List Mention) → is_empty ms ≡ true → Covers [] ms
empty_covers [] h = covers_refl []
empty_covers (m ∷ ms) h = absurd (false≢true h)

-- steps of guards mention no array
guard_mentions : (k : ℕ) (guard : Option PartForm) → guard_mentions_none guard ≡ true → Covers [] (steps_mentions (guard_step k guard))
guard_mentions k None h = covers_refl []
guard_mentions k (Some p) h =
    covers-append [] [] (part_mentions p ++ []) [] (covers-append [] [] (part_mentions p) [] (empty_covers (part_mentions p) h) (covers_refl [])) (covers_refl [])

guards_mentions : (k : ℕ) (bodies : List BodyForm) → guards_mention_none bodies ≡ true → Covers [] (steps_mentions (guard_steps k bodies))
guards_mentions k [] h = covers_refl []
guards_mentions k (body ∷ bodies) h =
    let parts = both (guard_mentions_none body.guard) (guards_mention_none bodies) h in
    covers_steps-append [] [] (guard_step k body.guard) (guard_steps (k + guard_count body.guard) bodies) (guard_mentions k body.guard parts.0) (guards_mentions (k + guard_count body.guard) bodies parts.1)

guard_keeps : (k : ℕ) (ms : List Mention) (guard : Option PartForm) → keep_indexes ms (visits_of (guard_step k guard)) ≡ true
guard_keeps k ms None = refl
guard_keeps k ms (Some p) = refl

guards_keep : (k : ℕ) (ms : List Mention) (bodies : List BodyForm) → keep_indexes ms (visits_of (guard_steps k bodies)) ≡ true
guards_keep k ms [] = refl
guards_keep k ms (body ∷ bodies) =
    keep_steps-join ms (guard_step k body.guard) (guard_steps (k + guard_count body.guard) bodies) (guard_keeps k ms body.guard) (guards_keep (k + guard_count body.guard) (ms ++ steps_mentions (guard_step k body.guard)) bodies)

pub straight_keeps : (bodies : List BodyForm) → guards_mention_none bodies ≡ true → keep_indexes [] (bodies_visits bodies) ≡ true → keep_indexes [] (map step_visit (straight bodies)) ≡ true
straight_keeps bodies free h =
    keep_steps-join [] (guard_steps 0 bodies) (bodies_steps 0 (guards bodies) bodies) (guards_keep 0 [] bodies) (bodies_keep 0 (guards bodies) [] (steps_mentions (guard_steps 0 bodies)) bodies (guards_mentions 0 bodies free) h)

straight_mentions : (bodies : List BodyForm) → guards_mention_none bodies ≡ true → Covers (mentions_in (bodies_visits bodies)) (steps_mentions (straight bodies))
straight_mentions bodies free =
    covers_steps-append [] (mentions_in (bodies_visits bodies)) (guard_steps 0 bodies) (bodies_steps 0 (guards bodies) bodies) (guards_mentions 0 bodies free) (bodies_mentions 0 (guards bodies) bodies)

all_weaker : (p q : Mention → Bool) → ((m : Mention) → p m ≡ true → q m ≡ true) → (ms : List Mention) → list_all p ms ≡ true → list_all q ms ≡ true
all_weaker p q weaker [] h = refl
all_weaker p q weaker (m ∷ ms) h =
    let parts = both (p m) (list_all p ms) h in
    join _ _ (weaker m parts.0) (all_weaker p q weaker ms parts.1)

one_index_still : (ms ns : List Mention) → Covers ms ns → have_one_index ms ≡ true → have_one_index ns ≡ true
one_index_still ms ns c h =
    all_weaker (λ m. list_all (agree m) ms) (λ m. list_all (agree m) ns) (λ m. c.all (agree m)) ns (c.all (λ m. list_all (agree m) ms) h)

pub straight_one_index : (bodies : List BodyForm) → guards_mention_none bodies ≡ true → have_one_index (mentions_in (bodies_visits bodies)) ≡ true → have_one_index (mentions_in (map step_visit (straight bodies))) ≡ true
straight_one_index bodies free h = one_index_still _ _ (straight_mentions bodies free) h
