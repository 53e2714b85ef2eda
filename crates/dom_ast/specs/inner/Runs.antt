-- When all numbers in a program are in range for a run, and the bodies that a run picks.
use Rattle.std.specs.Prelude.{ℕ, Bool, true, ◌&&◌, Option, Some, None, List, [], ◌∷◌, fold, if◌then◌else◌, length, nat_lt}
use Rattle.std.specs.List.{list_all}
use Rattle.dom_words.specs.State.{Hash}
use Rattle.dom_ast.specs.Kept.{Ranges, goal_within, part_within, resolved_ranges}
use Rattle.dom_ast.specs.Meaning.{Env, all_acted}
use Rattle.dom_ast.specs.Resolved.{PartForm, ActForm, assign, branch, ActForms, no_acts, act, BodyForm}

-- every array has a word
abbrev pub are_filled : List (List ℕ) → Bool
are_filled arrays = list_all (λ words. nat_lt 0 (length words)) arrays

-- the numbers that a packet and a state leave a resolved program
abbrev pub ranges_over : List ℕ → List (List ℕ) → Ranges
ranges_over packet arrays = resolved_ranges (length packet) (length arrays)

-- every number in a statement is in range
abbrev mutual
  pub act_within : Ranges → ActForm → Bool
  act_within r (assign g p) = part_within r p && goal_within r g
  act_within r (branch p a b) = part_within r p && (acts_within r a && acts_within r b)

  pub acts_within : Ranges → ActForms → Bool
  acts_within r no_acts = true
  acts_within r (act a rest) = act_within r a && acts_within r rest

-- every number in a guard is in range, if there is one
abbrev pub guard_within : Ranges → Option PartForm → Bool
guard_within r None = true
guard_within r (Some p) = part_within r p

-- every number in the transactions is in range
abbrev pub bodies_within : Ranges → List BodyForm → Bool
bodies_within r bodies = list_all (λ body. guard_within r body.guard && acts_within r body.acts) bodies

-- the bodies for which the answers are yes
abbrev pub picked : List BodyForm → List Bool → List BodyForm
picked [] answers = []
picked (body ∷ bodies) [] = []
picked (body ∷ bodies) (answer ∷ answers) = if answer then body ∷ picked bodies answers else picked bodies answers

-- the bodies one after another
abbrev pub all_run : Hash → List BodyForm → Env → Env
all_run hash bodies env = fold (λ now body. all_acted hash body.acts now) env bodies
