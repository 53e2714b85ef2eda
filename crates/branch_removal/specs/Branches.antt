-- Branches as conditional moves: the list of steps of transactions.
use Rattle.std.specs.Prelude.{ℕ, zero, suc, ◌+◌, List, [], ◌∷◌, ◌++◌, flat_map, map, Option, Some, None}
use Rattle.dom_ast.specs.declared.part.Goal.{Goal}
use Rattle.dom_ast.specs.declared.part.Goal.TheVariants as goal
use Rattle.dom_ast.specs.Resolved.{PartForm, field, state, fresh, choice, ActForm, assign, branch, ActForms, no_acts, act, BodyForm}
use Rattle.dom_ast.specs.Straight.{StepForm}
use Rattle.branch_removal.specs.declared.branch.Branch.{Branch}
use Rattle.branch_removal.specs.declared.branch.Branch.TheVariants.{Then, Else}

-- a target gets a value
abbrev pub step : Goal → PartForm → StepForm
step g p = record { target = g; value = p }

-- the new value where the branch is taken, and the old one where it is not
abbrev pub moved : Branch → PartForm → PartForm → PartForm
moved (Then k) new old = choice (fresh k) new old
moved (Else k) new old = choice (fresh k) old new

-- a step of a branch, by its target and its value
abbrev pub guarded_at : Branch → Goal → PartForm → StepForm
guarded_at b (goal.Field f) p = step (goal.Field f) (moved b p (field f))
guarded_at b (goal.State a i) p = step (goal.State a i) (moved b p (state a i))
guarded_at b (goal.Fresh k) p = step (goal.Fresh k) p

-- A step of a branch is a conditional move. Where its target is a fresh name it stays as it is, since steps of that branch
-- alone use the name.
abbrev pub guarded : Branch → StepForm → StepForm
guarded b s = guarded_at b s.target s.value

-- how many `if`s there are; each needs one fresh name
abbrev mutual
  pub act_ifs : ActForm → ℕ
  act_ifs (assign g p) = 0
  act_ifs (branch c a b) = 1 + acts_ifs a + acts_ifs b

  pub acts_ifs : ActForms → ℕ
  acts_ifs no_acts = 0
  acts_ifs (act a rest) = act_ifs a + acts_ifs rest

-- the steps of statements, with fresh names from n on: an `if` is a step that gives its condition to a fresh name, and then
-- the steps of both of its branches
abbrev mutual
  pub act_steps : ℕ → ActForm → List StepForm
  act_steps n (assign g p) = step g p ∷ []
  act_steps n (branch c a b) =
      step (goal.Fresh n) c
      ∷ (map (guarded (Then n)) (acts_steps (n + 1) a) ++ map (guarded (Else n)) (acts_steps (n + 1 + acts_ifs a) b))

  pub acts_steps : ℕ → ActForms → List StepForm
  acts_steps n no_acts = []
  acts_steps n (act a rest) = act_steps n a ++ acts_steps (n + act_ifs a) rest

-- 1 where there is a guard
abbrev pub guard_count : Option PartForm → ℕ
guard_count None = 0
guard_count (Some p) = 1

-- how many transactions have a guard
abbrev pub guards : List BodyForm → ℕ
guards [] = 0
guards (body ∷ bodies) = guard_count body.guard + guards bodies

-- how many `if`s transactions have
abbrev pub ifs : List BodyForm → ℕ
ifs [] = 0
ifs (body ∷ bodies) = acts_ifs body.acts + ifs bodies

-- the step of a guard, if there is one: fresh name k gets its word
abbrev pub guard_step : ℕ → Option PartForm → List StepForm
guard_step k None = []
guard_step k (Some p) = step (goal.Fresh k) p ∷ []

-- one step for each guard, with fresh names from k on
abbrev pub guard_steps : ℕ → List BodyForm → List StepForm
guard_steps k [] = []
guard_steps k (body ∷ bodies) = guard_step k body.guard ++ guard_steps (k + guard_count body.guard) bodies

-- steps of a transaction; a guard, whose fresh name is k, is the condition of an `if` around them
abbrev pub chosen_steps : ℕ → Option PartForm → List StepForm → List StepForm
chosen_steps k None steps = steps
chosen_steps k (Some p) steps = map (guarded (Then k)) steps

-- the steps of transactions, with the guards' fresh names from k on and those of their `if`s from n on
abbrev pub bodies_steps : ℕ → ℕ → List BodyForm → List StepForm
bodies_steps k n [] = []
bodies_steps k n (body ∷ bodies) =
    chosen_steps k body.guard (acts_steps n body.acts)
    ++ bodies_steps (k + guard_count body.guard) (n + acts_ifs body.acts) bodies

-- the steps of a program: first those of all guards, and then those of the transactions, in the order of the text
abbrev pub straight : List BodyForm → List StepForm
straight bodies = guard_steps 0 bodies ++ bodies_steps 0 (guards bodies) bodies

-- the fresh name that a target is
abbrev pub goal_names : Goal → List ℕ
goal_names (goal.Field f) = []
goal_names (goal.State a i) = []
goal_names (goal.Fresh k) = k ∷ []

-- the fresh names that steps give words to, in order
abbrev pub given_names : List StepForm → List ℕ
given_names steps = flat_map (λ s. goal_names s.target) steps

-- so many numbers from n on
abbrev pub numbers : ℕ → ℕ → List ℕ
numbers n zero = []
numbers n (suc count) = n ∷ numbers (n + 1) count
