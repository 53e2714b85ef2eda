-- The fresh names that steps give words to.
use Rattle.std.proofs.Common.{◌≡◌, ℕ, ◌+◌, ◌≤◌, true, ◌&&◌, List, [], ◌∷◌, ◌++◌, map, arith}
use Rattle.std.specs.Prelude.{Option, Some, None}
use Rattle.dom_ast.specs.declared.part.Goal.{Goal}
use Rattle.dom_ast.specs.declared.part.Goal.TheVariants as goal
use Rattle.dom_ast.specs.Kept.{act_visits, acts_visits, are_within, condition, goal_within, part_within, resolved_ranges, visit_within}
use Rattle.dom_ast.specs.Resolved.{PartForm, ActForm, assign, branch, ActForms, no_acts, act, BodyForm}
use Rattle.dom_ast.specs.Straight.{StepForm}
use Rattle.branch_removal.specs.declared.branch.Branch.{Branch}
use Rattle.branch_removal.specs.declared.branch.Branch.TheVariants.{Then, Else}
use Rattle.branch_removal.specs.Branches.{act_ifs, act_steps, acts_ifs, acts_steps, guard_count, guard_step, guard_steps, guarded, guarded_at}
use Rattle.branch_removal.proofs.Tests.{both, both_parts, none_below}

-- a fresh name that is given a word has a number from n on
abbrev pub IsFrom : ℕ → Goal → Type 0
IsFrom n (goal.Field f) = Unit {0}
IsFrom n (goal.State a i) = Unit {0}
IsFrom n (goal.Fresh k) = n ≤ k

abbrev pub AreFrom : ℕ → List StepForm → Type 0
AreFrom n [] = Unit {0}
AreFrom n (s ∷ ss) = IsFrom n s.target × AreFrom n ss

from_sooner : (m n : ℕ) (g : Goal) → m ≤ n → IsFrom n g → IsFrom m g
from_sooner m n (goal.Field f) le h = tt
from_sooner m n (goal.State a i) le h = tt
from_sooner m n (goal.Fresh k) le h = omega arith

pub are_from_sooner : (m n : ℕ) (ss : List StepForm) → m ≤ n → AreFrom n ss → AreFrom m ss
are_from_sooner m n [] le h = tt
are_from_sooner m n (s ∷ ss) le h = (from_sooner m n s.target le h.0, are_from_sooner m n ss le h.1)

pub are_from_append : (n : ℕ) (ss ts : List StepForm) → AreFrom n ss → AreFrom n ts → AreFrom n (ss ++ ts)
are_from_append n [] ts h k = k
are_from_append n (s ∷ ss) ts h k = (h.0, are_from_append n ss ts h.1 k)

guarded_at_from : (b : Branch) (n : ℕ) (g : Goal) (p : PartForm) → IsFrom n g → IsFrom n (guarded_at b g p).target
guarded_at_from b n (goal.Field f) p h = tt
guarded_at_from b n (goal.State a i) p h = tt
guarded_at_from b n (goal.Fresh k) p h = h

pub guarded_from : (b : Branch) (n : ℕ) (ss : List StepForm) → AreFrom n ss → AreFrom n (map (guarded b) ss)
guarded_from b n [] h = tt
guarded_from b n (s ∷ ss) h = (guarded_at_from b n s.target s.value h.0, guarded_from b n ss h.1)

module _ (fields arrays : ℕ) where
  resolved_from : (n : ℕ) (g : Goal) → goal_within (resolved_ranges fields arrays) g ≡ true → IsFrom n g
  resolved_from n (goal.Field f) h = tt
  resolved_from n (goal.State a i) h = tt
  resolved_from n (goal.Fresh k) h = absurd (none_below k h)

  mutual
    act_from : (n : ℕ) (a : ActForm) → are_within (resolved_ranges fields arrays) (act_visits a) ≡ true → AreFrom n (act_steps n a)
    act_from n (assign g p) h =
        let r = resolved_ranges fields arrays in
        let visit = both (part_within r p && goal_within r g) true h in
        (resolved_from n g (both (part_within r p) (goal_within r g) visit.0).1, tt)
    act_from n (branch c a b) h =
        let r = resolved_ranges fields arrays in
        let sides = both_parts (visit_within r) (acts_visits a) (acts_visits b) (both (visit_within r (condition c)) (are_within r (acts_visits a ++ acts_visits b)) h).1 in
        (omega arith, are_from_append n _ _ (guarded_from (Then n) n _ (are_from_sooner n (n + 1) _ (omega arith) (acts_from (n + 1) a sides.0))) (guarded_from (Else n) n _ (are_from_sooner n (n + 1 + acts_ifs a) _ (omega arith) (acts_from (n + 1 + acts_ifs a) b sides.1))))

    pub acts_from : (n : ℕ) (acts : ActForms) → are_within (resolved_ranges fields arrays) (acts_visits acts) ≡ true → AreFrom n (acts_steps n acts)
    acts_from n no_acts h = tt
    acts_from n (act a rest) h =
        let parts = both_parts (visit_within (resolved_ranges fields arrays)) (act_visits a) (acts_visits rest) h in
        are_from_append n _ _ (act_from n a parts.0) (are_from_sooner n (n + act_ifs a) _ (omega arith) (acts_from (n + act_ifs a) rest parts.1))

pub guards_from : (k : ℕ) (bodies : List BodyForm) → AreFrom k (guard_steps k bodies)
guards_from k [] = tt
guards_from k (body ∷ bodies) =
    are_from_append k _ _ (one body.guard) (are_from_sooner k (k + guard_count body.guard) _ (omega arith) (guards_from (k + guard_count body.guard) bodies))
  where
    one : (guard : Option PartForm) → AreFrom k (guard_step k guard)
    one None = tt
    one (Some p) = (omega arith, tt)
