-- Where read and write flanks stand in a list of steps.
use Rattle.std.specs.Prelude.{ℕ, ◌+◌, Bool, nat_eq, List, [], ◌∷◌, ◌++◌, Option, Some, None, if◌then◌else◌}
use Rattle.std.specs.List.{list_any}
use Rattle.std.specs.Option.{option_or}
use Rattle.dom_words.specs.declared.array.Array.{Array}
use Rattle.dom_ast.specs.declared.part.Goal.{Goal}
use Rattle.dom_ast.specs.declared.part.Goal.TheVariants as goal
use Rattle.dom_ast.specs.declared.part.Place.{Place}
use Rattle.dom_ast.specs.Kept.{Mention, visit_mentions}
use Rattle.dom_ast.specs.Straight.{StepForm, step_visit}
use Rattle.dom_ast.specs.Flanks.{FlankForm, read, set, write}

-- what a step mentions: its value from left to right, and then its target
abbrev pub step_mentions : StepForm → List Mention
step_mentions s = visit_mentions (step_visit s)

-- the array is mentioned among these
abbrev pub is_mentioned : List Mention → ℕ → Bool
is_mentioned before a = list_any (λ m. nat_eq m.array a) before

-- a mention of an array that is not mentioned before has a read flank
abbrev pub read_flank : List Mention → Mention → List FlankForm
read_flank before m = if is_mentioned before m.array then [] else read m.array m.index ∷ []

-- the read flanks of mentions after others
abbrev pub read_flanks : List Mention → List Mention → List FlankForm
read_flanks before [] = []
read_flanks before (m ∷ ms) = read_flank before m ++ read_flanks (before ++ m ∷ []) ms

-- steps after these mentions: just before each step stand the read flanks of the arrays that it is the first to mention
abbrev pub with_reads : List Mention → List StepForm → List FlankForm
with_reads before [] = []
with_reads before (s ∷ ss) = read_flanks before (step_mentions s) ++ (set s ∷ with_reads (before ++ step_mentions s) ss)

-- the index at which a target reaches array a, if it does
abbrev pub goal_index : ℕ → Goal → Option Place
goal_index a (goal.Field f) = None
goal_index a (goal.State b i) = if nat_eq b a then Some i else None
goal_index a (goal.Fresh k) = None

-- the index at which the first step that has array a as its target reaches it; `None` where no step has
abbrev pub target_index : ℕ → List StepForm → Option Place
target_index a [] = None
target_index a (s ∷ ss) = option_or (goal_index a s.target) (target_index a ss)

-- an array that is a target has a write flank
abbrev pub write_flank : ℕ → Option Place → List FlankForm
write_flank a None = []
write_flank a (Some i) = write a i ∷ []

-- the write flanks of arrays whose numbers begin at a, in order of declaration
abbrev pub write_flanks : ℕ → List Array → List StepForm → List FlankForm
write_flanks a [] steps = []
write_flanks a (x ∷ xs) steps = write_flank a (target_index a steps) ++ write_flanks (a + 1) xs steps

-- the steps with their flanks
abbrev pub with_flanks : List Array → List StepForm → List FlankForm
with_flanks arrays steps = with_reads [] steps ++ write_flanks 0 arrays steps
