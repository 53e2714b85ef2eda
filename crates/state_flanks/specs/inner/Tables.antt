-- Flanks by tables: for each array, whether it has been mentioned, and the index at which it was a target first.
use Rattle.std.specs.Prelude.{ℕ, ◌+◌, Bool, true, List, [], ◌∷◌, ◌++◌, fold, Option, Some, None, if◌then◌else◌, slice_index_or, slice_set}
use Rattle.std.specs.Option.{option_or}
use Rattle.dom_ast.specs.declared.part.Goal.{Goal}
use Rattle.dom_ast.specs.declared.part.Goal.TheVariants as goal
use Rattle.dom_ast.specs.declared.part.Place.{Place}
use Rattle.dom_ast.specs.Kept.{Mention}
use Rattle.dom_ast.specs.Straight.{StepForm}
use Rattle.dom_ast.specs.Flanks.{FlankForm, read, set}
use Rattle.state_flanks.specs.WithFlanks.{step_mentions, write_flank}

-- an array outside the table counts as mentioned
abbrev pub is_marked : List Bool → Mention → Bool
is_marked table m = slice_index_or table m.array true

-- the table after a mention
abbrev pub marked : List Bool → Mention → List Bool
marked table m = if is_marked table m then table else slice_set table m.array true

-- the read flank that comes with a mention, if its array has not been mentioned
abbrev pub new_read : List Bool → Mention → List FlankForm
new_read table m = if is_marked table m then [] else read m.array m.index ∷ []

-- the table after mentions
abbrev pub marks : List Bool → List Mention → List Bool
marks table ms = fold marked table ms

-- the read flanks that come with mentions
abbrev pub reads : List Bool → List Mention → List FlankForm
reads table [] = []
reads table (m ∷ ms) = new_read table m ++ reads (marked table m) ms

-- steps, each behind the read flanks that come with its mentions
abbrev pub steps_reads : List Bool → List StepForm → List FlankForm
steps_reads table [] = []
steps_reads table (s ∷ ss) = reads table (step_mentions s) ++ (set s ∷ steps_reads (marks table (step_mentions s)) ss)

-- the table of indexes after a target: the first index of each array stays
abbrev pub noted : List (Option Place) → Goal → List (Option Place)
noted table (goal.Field f) = table
noted table (goal.State a i) = slice_set table a (option_or (slice_index_or table a None) (Some i))
noted table (goal.Fresh k) = table

-- the same after the targets of steps
abbrev pub steps_noted : List (Option Place) → List StepForm → List (Option Place)
steps_noted table ss = fold (λ t s. noted t s.target) table ss

-- the write flanks of arrays whose numbers begin at a
abbrev pub new_writes : ℕ → List (Option Place) → List FlankForm
new_writes a [] = []
new_writes a (place ∷ table) = write_flank a place ++ new_writes (a + 1) table
