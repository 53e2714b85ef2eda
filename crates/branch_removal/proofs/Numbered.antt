-- Fresh names are numbered in the order of their steps.
use Rattle.std.proofs.Common.{◌≡◌, ℕ, zero, suc, ◌+◌, true, ◌&&◌, List, [], ◌∷◌, ◌++◌, map, refl, ap, ◌∙◌, arith}
use Rattle.std.specs.Prelude.{Option, Some, None}
use Rattle.std.proofs.lemmas.Grind.{flat_map-append}
use Rattle.dom_ast.specs.declared.part.Goal.{Goal}
use Rattle.dom_ast.specs.declared.part.Goal.TheVariants as goal
use Rattle.dom_ast.specs.Kept.{act_visits, acts_visits, are_within, bodies_visits, condition, goal_within, guard_visits, part_within, resolved_ranges, visit_within}
use Rattle.dom_ast.specs.Resolved.{PartForm, ActForm, assign, branch, ActForms, no_acts, act, BodyForm}
use Rattle.dom_ast.specs.Straight.{StepForm}
use Rattle.branch_removal.specs.declared.branch.Branch.{Branch}
use Rattle.branch_removal.specs.declared.branch.Branch.TheVariants.{Then, Else}
use Rattle.branch_removal.specs.Branches.{act_ifs, act_steps, acts_ifs, acts_steps, bodies_steps, chosen_steps, given_names, goal_names, guard_count, guard_step, guard_steps, guarded, guarded_at, guards, ifs, numbers, straight}
use Rattle.branch_removal.proofs.Tests.{both, both_parts, none_below}

numbers-append : (n a b : ℕ) → numbers n a ++ numbers (n + a) b ≡ numbers n (a + b)
numbers-append n zero b =
    let start : n + 0 ≡ n = omega arith in
    let count : b ≡ 0 + b = omega arith in
    ap (λ k. numbers k b) start ∙ ap (numbers n) count
numbers-append n (suc a) b =
    let later : n + suc a ≡ (n + 1) + a = omega arith in
    let count : suc (a + b) ≡ suc a + b = omega arith in
    ap (λ k. n ∷ (numbers (n + 1) a ++ numbers k b)) later
    ∙ ap (λ ns. n ∷ ns) (numbers-append (n + 1) a b)
    ∙ ap (numbers n) count

names-append : (ss ts : List StepForm) → given_names (ss ++ ts) ≡ given_names ss ++ given_names ts
names-append ss ts = flat_map-append (λ (s : StepForm). goal_names s.target) ss ts

guarded_names : (b : Branch) (ss : List StepForm) → given_names (map (guarded b) ss) ≡ given_names ss
guarded_names b [] = refl
guarded_names b (s ∷ ss) =
    ap (λ ns. ns ++ given_names (map (guarded b) ss)) (at s.target s.value) ∙ ap (λ ns. goal_names s.target ++ ns) (guarded_names b ss)
  where
    at : (g : Goal) (p : PartForm) → goal_names (guarded_at b g p).target ≡ goal_names g
    at (goal.Field f) p = refl
    at (goal.State a i) p = refl
    at (goal.Fresh k) p = refl

-- two lists of steps whose names follow each other
in_turn : (n a b : ℕ) (ss ts : List StepForm) → given_names ss ≡ numbers n a → given_names ts ≡ numbers (n + a) b → given_names (ss ++ ts) ≡ numbers n (a + b)
in_turn n a b ss ts h k =
    names-append ss ts ∙ ap (λ ns. ns ++ given_names ts) h ∙ ap (λ ns. numbers n a ++ ns) k ∙ numbers-append n a b

module _ (fields arrays : ℕ) where
  no_names : (g : Goal) → goal_within (resolved_ranges fields arrays) g ≡ true → goal_names g ≡ []
  no_names (goal.Field f) h = refl
  no_names (goal.State a i) h = refl
  no_names (goal.Fresh k) h = absurd (none_below k h)

  mutual
    act_names : (n : ℕ) (a : ActForm) → are_within (resolved_ranges fields arrays) (act_visits a) ≡ true → given_names (act_steps n a) ≡ numbers n (act_ifs a)
    act_names n (assign g p) h =
        let r = resolved_ranges fields arrays in
        let visit = both (part_within r p && goal_within r g) true h in
        ap (λ ns. ns ++ []) (no_names g (both (part_within r p) (goal_within r g) visit.0).1)
    act_names n (branch c a b) h =
        let r = resolved_ranges fields arrays in
        let sides = both_parts (visit_within r) (acts_visits a) (acts_visits b) (both (visit_within r (condition c)) (are_within r (acts_visits a ++ acts_visits b)) h).1 in
        let ss = map (guarded (Then n)) (acts_steps (n + 1) a) in
        let ts = map (guarded (Else n)) (acts_steps (n + 1 + acts_ifs a) b) in
        let count : suc (acts_ifs a + acts_ifs b) ≡ 1 + acts_ifs a + acts_ifs b = omega arith in
        ap (λ ns. n ∷ ns) (in_turn (n + 1) (acts_ifs a) (acts_ifs b) ss ts (guarded_names (Then n) (acts_steps (n + 1) a) ∙ acts_names (n + 1) a sides.0) (guarded_names (Else n) (acts_steps (n + 1 + acts_ifs a) b) ∙ acts_names (n + 1 + acts_ifs a) b sides.1))
        ∙ ap (numbers n) count

    acts_names : (n : ℕ) (acts : ActForms) → are_within (resolved_ranges fields arrays) (acts_visits acts) ≡ true → given_names (acts_steps n acts) ≡ numbers n (acts_ifs acts)
    acts_names n no_acts h = refl
    acts_names n (act a rest) h =
        let parts = both_parts (visit_within (resolved_ranges fields arrays)) (act_visits a) (acts_visits rest) h in
        in_turn n (act_ifs a) (acts_ifs rest) (act_steps n a) (acts_steps (n + act_ifs a) rest) (act_names n a parts.0) (acts_names (n + act_ifs a) rest parts.1)

  chosen_names : (k n : ℕ) (guard : Option PartForm) (acts : ActForms) → are_within (resolved_ranges fields arrays) (acts_visits acts) ≡ true → given_names (chosen_steps k guard (acts_steps n acts)) ≡ numbers n (acts_ifs acts)
  chosen_names k n None acts h = acts_names n acts h
  chosen_names k n (Some p) acts h = guarded_names (Then k) (acts_steps n acts) ∙ acts_names n acts h

  guard_names : (k : ℕ) (guard : Option PartForm) → given_names (guard_step k guard) ≡ numbers k (guard_count guard)
  guard_names k None = refl
  guard_names k (Some p) = refl

  guards_names : (k : ℕ) (bodies : List BodyForm) → given_names (guard_steps k bodies) ≡ numbers k (guards bodies)
  guards_names k [] = refl
  guards_names k (body ∷ bodies) =
      in_turn k (guard_count body.guard) (guards bodies) (guard_step k body.guard) (guard_steps (k + guard_count body.guard) bodies) (guard_names k body.guard) (guards_names (k + guard_count body.guard) bodies)

  bodies_names : (k n : ℕ) (bodies : List BodyForm) → are_within (resolved_ranges fields arrays) (bodies_visits bodies) ≡ true → given_names (bodies_steps k n bodies) ≡ numbers n (ifs bodies)
  bodies_names k n [] h = refl
  bodies_names k n (body ∷ bodies) h =
      let r = resolved_ranges fields arrays in
      let parts = both_parts (visit_within r) (guard_visits body.guard ++ acts_visits body.acts) (bodies_visits bodies) h in
      let here = both_parts (visit_within r) (guard_visits body.guard) (acts_visits body.acts) parts.0 in
      in_turn n (acts_ifs body.acts) (ifs bodies) (chosen_steps k body.guard (acts_steps n body.acts)) (bodies_steps (k + guard_count body.guard) (n + acts_ifs body.acts) bodies) (chosen_names k n body.guard body.acts here.1) (bodies_names (k + guard_count body.guard) (n + acts_ifs body.acts) bodies parts.1)

  pub straight_names : (bodies : List BodyForm) → are_within (resolved_ranges fields arrays) (bodies_visits bodies) ≡ true → given_names (straight bodies) ≡ numbers 0 (guards bodies + ifs bodies)
  straight_names bodies h =
      let start : guards bodies ≡ 0 + guards bodies = omega arith in
      in_turn 0 (guards bodies) (ifs bodies) (guard_steps 0 bodies) (bodies_steps 0 (guards bodies) bodies) (guards_names 0 bodies) (bodies_names 0 (guards bodies) bodies h ∙ ap (λ n. numbers n (ifs bodies)) start)
