-- The numbers in the steps are in range.
use Rattle.std.proofs.Common.{◌≡◌, ℕ, ◌+◌, ◌≤◌, ◌<◌, true, ◌&&◌, List, [], ◌∷◌, ◌++◌, map, refl, arith}
use Rattle.std.specs.Prelude.{Option, Some, None, nat_eq}
use Rattle.std.proofs.lemmas.Bool.{lt-ltb}
use Rattle.dom_ast.specs.declared.part.Goal.{Goal}
use Rattle.dom_ast.specs.declared.part.Goal.TheVariants as goal
use Rattle.dom_ast.specs.declared.part.Place.TheVariants as place
use Rattle.dom_ast.specs.Kept.{act_visits, acts_visits, are_within, bodies_visits, parts_count, goal_within, guard_visits, ops_within, part_within, parts_within, resolved_ranges, visit_within}
use Rattle.dom_ast.specs.Resolved.{PartForm, number, field, state, fresh, made, call, un, chain, choice, PartForms, no_parts, part, OpForms, no_ops, op, ActForm, assign, branch, ActForms, no_acts, act, BodyForm}
use Rattle.dom_ast.specs.Straight.{StepForm, step_visit, straight_ranges}
use Rattle.branch_removal.specs.declared.branch.Branch.{Branch}
use Rattle.branch_removal.specs.declared.branch.Branch.TheVariants.{Then, Else}
use Rattle.branch_removal.specs.Branches.{act_ifs, act_steps, acts_ifs, acts_steps, bodies_steps, chosen_steps, guard_count, guard_step, guard_steps, guarded, guarded_at, guards, ifs, step, straight}
use Rattle.branch_removal.proofs.Sound.{branch_name}
use Rattle.branch_removal.proofs.Tests.{both, both_parts, join, none_below}

module _ (fields arrays names : ℕ) where
  mutual
    more_part : (p : PartForm) → part_within (resolved_ranges fields arrays) p ≡ true → part_within (straight_ranges fields arrays names) p ≡ true
    more_part (number w) h = refl
    more_part (field f) h = h
    more_part (state a (place.Word w)) h = h
    more_part (state a (place.Field f)) h = h
    more_part (fresh k) h = absurd (none_below k h)
    more_part (made k) h = h
    more_part (call unit ps) h =
        let parts = both (nat_eq (parts_count ps) unit.args) (parts_within (resolved_ranges fields arrays) ps) h in
        join _ _ parts.0 (more_parts ps parts.1)
    more_part (un o p) h = more_part p h
    more_part (chain p os) h =
        let parts = both (part_within (resolved_ranges fields arrays) p) (ops_within (resolved_ranges fields arrays) os) h in
        join _ _ (more_part p parts.0) (more_ops os parts.1)
    more_part (choice c p q) h =
        let r = resolved_ranges fields arrays in
        let parts = both (part_within r c) (part_within r p && part_within r q) h in
        let sides = both (part_within r p) (part_within r q) parts.1 in
        join _ _ (more_part c parts.0) (join _ _ (more_part p sides.0) (more_part q sides.1))

    more_parts : (ps : PartForms) → parts_within (resolved_ranges fields arrays) ps ≡ true → parts_within (straight_ranges fields arrays names) ps ≡ true
    more_parts no_parts h = refl
    more_parts (part p ps) h =
        let parts = both (part_within (resolved_ranges fields arrays) p) (parts_within (resolved_ranges fields arrays) ps) h in
        join _ _ (more_part p parts.0) (more_parts ps parts.1)

    more_ops : (os : OpForms) → ops_within (resolved_ranges fields arrays) os ≡ true → ops_within (straight_ranges fields arrays names) os ≡ true
    more_ops no_ops h = refl
    more_ops (op o p os) h =
        let parts = both (part_within (resolved_ranges fields arrays) p) (ops_within (resolved_ranges fields arrays) os) h in
        join _ _ (more_part p parts.0) (more_ops os parts.1)

  more_goal : (g : Goal) → goal_within (resolved_ranges fields arrays) g ≡ true → goal_within (straight_ranges fields arrays names) g ≡ true
  more_goal (goal.Field f) h = h
  more_goal (goal.State a (place.Word w)) h = h
  more_goal (goal.State a (place.Field f)) h = h
  more_goal (goal.Fresh k) h = absurd (none_below k h)

  abbrev AreWithin : List StepForm → Type 0
  AreWithin ss = are_within (straight_ranges fields arrays names) (map step_visit ss) ≡ true

  within-append : (ss ts : List StepForm) → AreWithin ss → AreWithin ts → AreWithin (ss ++ ts)
  within-append [] ts h k = k
  within-append (s ∷ ss) ts h k =
      let r = straight_ranges fields arrays names in
      let parts = both (visit_within r (step_visit s)) (are_within r (map step_visit ss)) h in
      join _ _ parts.0 (within-append ss ts parts.1 k)

  one_within : (g : Goal) (p : PartForm) → part_within (straight_ranges fields arrays names) p ≡ true → goal_within (straight_ranges fields arrays names) g ≡ true → AreWithin (step g p ∷ [])
  one_within g p h k = join _ _ (join _ _ h k) refl

  guarded_at_within : (b : Branch) (g : Goal) (p : PartForm) → branch_name b < names → part_within (straight_ranges fields arrays names) p ≡ true → goal_within (straight_ranges fields arrays names) g ≡ true → visit_within (straight_ranges fields arrays names) (step_visit (guarded_at b g p)) ≡ true
  guarded_at_within (Then k) (goal.Field f) p lt h g = join _ _ (join _ _ (lt-ltb k names lt) (join _ _ h g)) g
  guarded_at_within (Else k) (goal.Field f) p lt h g = join _ _ (join _ _ (lt-ltb k names lt) (join _ _ g h)) g
  guarded_at_within (Then k) (goal.State a i) p lt h g = join _ _ (join _ _ (lt-ltb k names lt) (join _ _ h g)) g
  guarded_at_within (Else k) (goal.State a i) p lt h g = join _ _ (join _ _ (lt-ltb k names lt) (join _ _ g h)) g
  guarded_at_within (Then k) (goal.Fresh j) p lt h g = join _ _ h g
  guarded_at_within (Else k) (goal.Fresh j) p lt h g = join _ _ h g

  guarded_within : (b : Branch) (ss : List StepForm) → branch_name b < names → AreWithin ss → AreWithin (map (guarded b) ss)
  guarded_within b [] lt h = refl
  guarded_within b (s ∷ ss) lt h =
      let r = straight_ranges fields arrays names in
      let parts = both (visit_within r (step_visit s)) (are_within r (map step_visit ss)) h in
      let here = both (part_within r s.value) (goal_within r s.target) parts.0 in
      join _ _ (guarded_at_within b s.target s.value lt here.0 here.1) (guarded_within b ss lt parts.1)

  mutual
    act_within : (n : ℕ) (a : ActForm) → n + act_ifs a ≤ names → are_within (resolved_ranges fields arrays) (act_visits a) ≡ true → AreWithin (act_steps n a)
    act_within n (assign g p) le h =
        let r = resolved_ranges fields arrays in
        let here = both (part_within r p) (goal_within r g) (both (part_within r p && goal_within r g) true h).0 in
        one_within g p (more_part p here.0) (more_goal g here.1)
    act_within n (branch c a b) le h =
        let r = resolved_ranges fields arrays in
        let parts = both (part_within r c && true) (are_within r (acts_visits a ++ acts_visits b)) h in
        let sides = both_parts (visit_within r) (acts_visits a) (acts_visits b) parts.1 in
        let name : n < names = omega arith in
        within-append (step (goal.Fresh n) c ∷ []) (map (guarded (Then n)) (acts_steps (n + 1) a) ++ map (guarded (Else n)) (acts_steps (n + 1 + acts_ifs a) b)) (one_within (goal.Fresh n) c (more_part c (both (part_within r c) true parts.0).0) (lt-ltb n names name)) (within-append (map (guarded (Then n)) (acts_steps (n + 1) a)) (map (guarded (Else n)) (acts_steps (n + 1 + acts_ifs a) b)) (guarded_within (Then n) (acts_steps (n + 1) a) name (acts_within (n + 1) a (omega arith) sides.0)) (guarded_within (Else n) (acts_steps (n + 1 + acts_ifs a) b) name (acts_within (n + 1 + acts_ifs a) b (omega arith) sides.1)))

    acts_within : (n : ℕ) (acts : ActForms) → n + acts_ifs acts ≤ names → are_within (resolved_ranges fields arrays) (acts_visits acts) ≡ true → AreWithin (acts_steps n acts)
    acts_within n no_acts le h = refl
    acts_within n (act a rest) le h =
        let parts = both_parts (visit_within (resolved_ranges fields arrays)) (act_visits a) (acts_visits rest) h in
        within-append (act_steps n a) (acts_steps (n + act_ifs a) rest) (act_within n a (omega arith) parts.0) (acts_within (n + act_ifs a) rest (omega arith) parts.1)

  guard_within : (k : ℕ) (guard : Option PartForm) → k + guard_count guard ≤ names → are_within (resolved_ranges fields arrays) (guard_visits guard) ≡ true → AreWithin (guard_step k guard)
  guard_within k None le h = refl
  guard_within k (Some p) le h =
      let r = resolved_ranges fields arrays in
      let name : k < names = omega arith in
      one_within (goal.Fresh k) p (more_part p (both (part_within r p) true (both (part_within r p && true) true h).0).0) (lt-ltb k names name)

  chosen_within : (k : ℕ) (guard : Option PartForm) (ss : List StepForm) → k + guard_count guard ≤ names → AreWithin ss → AreWithin (chosen_steps k guard ss)
  chosen_within k None ss le h = h
  chosen_within k (Some p) ss le h = guarded_within (Then k) ss (omega arith) h

  guards_within : (k : ℕ) (bodies : List BodyForm) → k + guards bodies ≤ names → are_within (resolved_ranges fields arrays) (bodies_visits bodies) ≡ true → AreWithin (guard_steps k bodies)
  guards_within k [] le h = refl
  guards_within k (body ∷ bodies) le h =
      let r = resolved_ranges fields arrays in
      let parts = both_parts (visit_within r) (guard_visits body.guard ++ acts_visits body.acts) (bodies_visits bodies) h in
      let here = both_parts (visit_within r) (guard_visits body.guard) (acts_visits body.acts) parts.0 in
      within-append (guard_step k body.guard) (guard_steps (k + guard_count body.guard) bodies) (guard_within k body.guard (omega arith) here.0) (guards_within (k + guard_count body.guard) bodies (omega arith) parts.1)

  bodies_within : (k n : ℕ) (bodies : List BodyForm) → k + guards bodies ≤ names → n + ifs bodies ≤ names → are_within (resolved_ranges fields arrays) (bodies_visits bodies) ≡ true → AreWithin (bodies_steps k n bodies)
  bodies_within k n [] le few h = refl
  bodies_within k n (body ∷ bodies) le few h =
      let r = resolved_ranges fields arrays in
      let parts = both_parts (visit_within r) (guard_visits body.guard ++ acts_visits body.acts) (bodies_visits bodies) h in
      let here = both_parts (visit_within r) (guard_visits body.guard) (acts_visits body.acts) parts.0 in
      within-append (chosen_steps k body.guard (acts_steps n body.acts)) (bodies_steps (k + guard_count body.guard) (n + acts_ifs body.acts) bodies) (chosen_within k body.guard (acts_steps n body.acts) (omega arith) (acts_within n body.acts (omega arith) here.1)) (bodies_within (k + guard_count body.guard) (n + acts_ifs body.acts) bodies (omega arith) (omega arith) parts.1)

pub straight_within : (fields arrays : ℕ) (bodies : List BodyForm) → are_within (resolved_ranges fields arrays) (bodies_visits bodies) ≡ true → are_within (straight_ranges fields arrays (guards bodies + ifs bodies)) (map step_visit (straight bodies)) ≡ true
straight_within fields arrays bodies h =
    let names = guards bodies + ifs bodies in
    within-append fields arrays names (guard_steps 0 bodies) (bodies_steps 0 (guards bodies) bodies) (guards_within fields arrays names 0 bodies (omega arith) h) (bodies_within fields arrays names 0 (guards bodies) bodies (omega arith) (omega arith) h)
