-- The steps of transactions do what the chosen transactions do.
use Rattle.std.proofs.Common.{◌≡◌, ℕ, ◌+◌, ◌≤◌, ◌<◌, Bool, true, false, ◌&&◌, List, [], ◌∷◌, ◌++◌, map, refl, sym, ap, ◌∙◌, subst, arith, if◌then◌else◌}
use Rattle.std.specs.Prelude.{fold, Option, Some, None}
use Rattle.std.specs.List.{filter}
use Rattle.std.proofs.lemmas.Bool.{eq-eqb}
use Rattle.dom_words.specs.Operators.{is_true}
use Rattle.dom_words.specs.State.{Hash}
use Rattle.dom_ast.specs.Kept.{acts_visits, are_within, bodies_visits, guard_visits, part_within, resolved_ranges, visit_within}
use Rattle.dom_ast.specs.Meaning.{Env, all_acted, entering, is_chosen, one_packet, outcome_of, value_in}
use Rattle.dom_ast.specs.Resolved.{PartForm, ActForms, BodyForm}
use Rattle.dom_ast.specs.Straight.{StepForm, all_stepped, straight_outcome}
use Rattle.branch_removal.specs.declared.branch.Branch.TheVariants.{Then}
use Rattle.branch_removal.specs.Branches.{acts_ifs, acts_steps, bodies_steps, chosen_steps, guard_count, guard_step, guard_steps, guarded, guards, straight}
use Rattle.branch_removal.proofs.Tests.{both, both_parts}
use Rattle.branch_removal.proofs.Targets.{AreFrom, acts_from, are_from_sooner, guarded_from, guards_from}
use Rattle.branch_removal.proofs.Sound.{Same, acts_mean, left, run-append, same_refl, same_trans, stays, taken, value_same}

abbrev Tells : Hash → Env → (ℕ → ℕ) → ℕ → Option PartForm → Type 0
Tells h entered names k None = Unit {0}
Tells h entered names k (Some p) = names k ≡ value_in h entered p

-- the fresh names from k on are the words that the guards had when the packet entered
abbrev TellsAll : Hash → Env → (ℕ → ℕ) → ℕ → List BodyForm → Type 0
TellsAll h entered names k [] = Unit {0}
TellsAll h entered names k (body ∷ bodies) =
    Tells h entered names k body.guard × TellsAll h entered names (k + guard_count body.guard) bodies

tells_still : (h : Hash) (entered : Env) (f g : ℕ → ℕ) (k : ℕ) (guard : Option PartForm) → ((j : ℕ) → j < k + guard_count guard → g j ≡ f j) → Tells h entered f k guard → Tells h entered g k guard
tells_still h entered f g k None same t = tt
tells_still h entered f g k (Some p) same t = same k (omega arith) ∙ t

tells_all_still : (h : Hash) (entered : Env) (f g : ℕ → ℕ) (k : ℕ) (bodies : List BodyForm) → ((j : ℕ) → j < k + guards bodies → g j ≡ f j) → TellsAll h entered f k bodies → TellsAll h entered g k bodies
tells_all_still h entered f g k [] same t = tt
tells_all_still h entered f g k (body ∷ bodies) same t =
    (tells_still h entered f g k body.guard (λ j lt. same j (omega arith)) t.0, tells_all_still h entered f g (k + guard_count body.guard) bodies (λ j lt. same j (omega arith)) t.1)

module _ (h : Hash) (fields arrays : ℕ) where
  body_parts : (body : BodyForm) (bodies : List BodyForm) → are_within (resolved_ranges fields arrays) (bodies_visits (body ∷ bodies)) ≡ true → (are_within (resolved_ranges fields arrays) (guard_visits body.guard) ≡ true) × (are_within (resolved_ranges fields arrays) (acts_visits body.acts) ≡ true) × (are_within (resolved_ranges fields arrays) (bodies_visits bodies) ≡ true)
  body_parts body bodies pl =
      let r = resolved_ranges fields arrays in
      let parts = both_parts (visit_within r) (guard_visits body.guard ++ acts_visits body.acts) (bodies_visits bodies) pl in
      let first = both_parts (visit_within r) (guard_visits body.guard) (acts_visits body.acts) parts.0 in
      (first.0, first.1, parts.1)

  -- the steps of guards leave the packet and the state, and give the guards' words to the fresh names
  record Tested (k : ℕ) (bodies : List BodyForm) (entered x : Env) : Type 0 where
    same : Same (all_stepped h x (guard_steps k bodies)) entered
    tells : TellsAll h entered (all_stepped h x (guard_steps k bodies)).fresh k bodies

  guard_tested : (k : ℕ) (guard : Option PartForm) (entered x : Env) → are_within (resolved_ranges fields arrays) (guard_visits guard) ≡ true → Same x entered → Same (all_stepped h x (guard_step k guard)) entered × Tells h entered (all_stepped h x (guard_step k guard)).fresh k guard
  guard_tested k None entered x pl s = (s, tt)
  guard_tested k (Some p) entered x pl s =
      let r = resolved_ranges fields arrays in
      let within = both (part_within r p) true (both (part_within r p && true) true pl).0 in
      (record { packet = s.packet; arrays = s.arrays }, ap (λ (b : Bool). if b then value_in h x p else x.fresh k) (eq-eqb k k refl) ∙ value_same h fields arrays p x entered within.0 s)

  -- steps that give no word to fresh names before n leave these
  stays_below : (n : ℕ) (ss : List StepForm) (e : Env) → AreFrom n ss → (j : ℕ) → j < n → (all_stepped h e ss).fresh j ≡ e.fresh j
  stays_below n ss e from j lt = stays h fields arrays j ss e (are_from_sooner (j + 1) n ss (omega arith) from)

  tested : (k : ℕ) (bodies : List BodyForm) (entered x : Env) → are_within (resolved_ranges fields arrays) (bodies_visits bodies) ≡ true → Same x entered → Tested k bodies entered x
  tested k [] entered x pl s = record { same = s; tells = tt }
  tested k (body ∷ bodies) entered x pl s =
      let parts = body_parts body bodies pl in
      let first = guard_step k body.guard in
      let next = k + guard_count body.guard in
      let rest = guard_steps next bodies in
      let here = guard_tested k body.guard entered x parts.0 s in
      let later = tested next bodies entered (all_stepped h x first) parts.2 here.0 in
      let kept = stays_below next rest (all_stepped h x first) (guards_from next bodies) in
      let E : Env → Type 0 = λ e. Same e entered × TellsAll h entered e.fresh k (body ∷ bodies) in
      let whole : E (all_stepped h x (first ++ rest)) =
      subst E (sym (run-append h fields arrays first rest x)) (later.same, (tells_still h entered (all_stepped h x first).fresh (all_stepped h (all_stepped h x first) rest).fresh k body.guard kept here.1, later.tells)) in
      record { same = whole.0; tells = whole.1 }

  -- a transaction runs or not as its guard says
  chosen_means : (k n : ℕ) (body : BodyForm) (entered x y : Env) → k + guard_count body.guard ≤ n → are_within (resolved_ranges fields arrays) (acts_visits body.acts) ≡ true → Tells h entered x.fresh k body.guard → Same x y → Same (all_stepped h x (chosen_steps k body.guard (acts_steps n body.acts))) (if is_chosen h entered body then all_acted h body.acts y else y)
  chosen_means k n body entered x y le pl tells s = by_guard body.guard le tells
    where
      ss : List StepForm
      ss = acts_steps n body.acts

      runs : Same (all_stepped h x ss) (all_acted h body.acts y)
      runs = acts_mean h fields arrays n body.acts x y pl s

      by_word : (le : k + 1 ≤ n) (t : Bool) → is_true (x.fresh k) ≡ t → Same (all_stepped h x (map (guarded (Then k)) ss)) (if t then all_acted h body.acts y else y)
      by_word le true e = subst (λ d. Same d (all_acted h body.acts y)) (sym (taken h fields arrays (Then k) ss x (are_from_sooner (k + 1) n ss le (acts_from fields arrays n body.acts pl)) e)) runs
      by_word le false e = same_trans (all_stepped h x (map (guarded (Then k)) ss)) x y (left h fields arrays (Then k) ss x (are_from_sooner (k + 1) n ss le (acts_from fields arrays n body.acts pl)) e) s

      by_guard : (guard : Option PartForm) → k + guard_count guard ≤ n → Tells h entered x.fresh k guard → Same (all_stepped h x (chosen_steps k guard ss)) (if is_chosen h entered (record { guard = guard; acts = body.acts }) then all_acted h body.acts y else y)
      by_guard None le tells = runs
      by_guard (Some p) le tells = by_word le (is_true (value_in h entered p)) (ap is_true tells)

  chosen_from : (k n : ℕ) (guard : Option PartForm) (acts : ActForms) → are_within (resolved_ranges fields arrays) (acts_visits acts) ≡ true → AreFrom n (chosen_steps k guard (acts_steps n acts))
  chosen_from k n None acts pl = acts_from fields arrays n acts pl
  chosen_from k n (Some p) acts pl = guarded_from (Then k) n (acts_steps n acts) (acts_from fields arrays n acts pl)

  run : List BodyForm → Env → Env
  run bodies e = fold (λ now body. all_acted h body.acts now) e bodies

  run_filtered : (test : BodyForm → Bool) (body : BodyForm) (bodies : List BodyForm) (y : Env) → run (filter test (body ∷ bodies)) y ≡ run (filter test bodies) (if test body then all_acted h body.acts y else y)
  unfolding run
  run_filtered test body bodies y = by_test (test body)
    where
      by_test : (t : Bool) → fold (λ now body. all_acted h body.acts now) y (if t then body ∷ filter test bodies else filter test bodies) ≡ fold (λ now body. all_acted h body.acts now) (if t then all_acted h body.acts y else y) (filter test bodies)
      by_test true = refl
      by_test false = refl

  bodies_mean : (k n : ℕ) (bodies : List BodyForm) (entered x y : Env) → k + guards bodies ≤ n → are_within (resolved_ranges fields arrays) (bodies_visits bodies) ≡ true → TellsAll h entered x.fresh k bodies → Same x y → Same (all_stepped h x (bodies_steps k n bodies)) (run (filter (is_chosen h entered) bodies) y)
  unfolding run
  bodies_mean k n [] entered x y le pl tells s = s
  bodies_mean k n (body ∷ bodies) entered x y le pl tells s =
      let parts = body_parts body bodies pl in
      let first = chosen_steps k body.guard (acts_steps n body.acts) in
      let rest = bodies_steps (k + guard_count body.guard) (n + acts_ifs body.acts) bodies in
      let here = chosen_means k n body entered x y (omega arith) parts.1 tells.0 s in
      let from = chosen_from k n body.guard body.acts parts.1 in
      let still = tells_all_still h entered x.fresh (all_stepped h x first).fresh (k + guard_count body.guard) bodies (λ j lt. stays_below n first x from j (omega arith)) tells.1 in
      let later = bodies_mean (k + guard_count body.guard) (n + acts_ifs body.acts) bodies entered (all_stepped h x first) (if is_chosen h entered body then all_acted h body.acts y else y) (omega arith) parts.2 still here in
      subst (λ d. Same d (run (filter (is_chosen h entered) (body ∷ bodies)) y)) (sym (run-append h fields arrays first rest x)) (subst (λ d. Same (all_stepped h (all_stepped h x first) rest) d) (sym (run_filtered (is_chosen h entered) body bodies y)) later)

  pub means_one : (bodies : List BodyForm) (packet : List ℕ) (state : List (List ℕ)) → are_within (resolved_ranges fields arrays) (bodies_visits bodies) ≡ true → straight_outcome h (straight bodies) packet state ≡ one_packet h bodies packet state
  unfolding run
  means_one bodies packet state pl =
      let entered = entering packet state in
      let first = tested 0 bodies entered entered pl (same_refl entered) in
      let all = bodies_mean 0 (guards bodies) bodies entered (all_stepped h entered (guard_steps 0 bodies)) entered (omega arith) pl first.tells first.same in
      ap outcome_of (run-append h fields arrays (guard_steps 0 bodies) (bodies_steps 0 (guards bodies) bodies) entered)
      ∙ outcomes _ _ all
    where
      outcomes : (a b : Env) → Same a b → outcome_of a ≡ outcome_of b
      outcomes a b s =
          ap (λ P. outcome_of (record { packet = P; arrays = a.arrays; fresh = a.fresh })) s.packet
          ∙ ap (λ S. outcome_of (record { packet = b.packet; arrays = S; fresh = a.fresh })) s.arrays
