-- Steps of branches that stand in one another.
use Rattle.std.specs.Prelude.{List, fold, reverse}
use Rattle.dom_ast.specs.Straight.{StepForm}
use Rattle.branch_removal.specs.declared.branch.Branch.{Branch}
use Rattle.branch_removal.specs.Branches.{guarded}

-- a step of the innermost of these branches, each of which stands in the one before it
abbrev pub within : List Branch → StepForm → StepForm
within branches s = fold (λ s b. guarded b s) s (reverse branches)
