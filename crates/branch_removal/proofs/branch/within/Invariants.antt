use Rattle.std.proofs.Common.{◌≡◌, map}
use Rattle.std.specs.Prelude.{fold}
use Rattle.dom_ast.specs.Straight.{step_form}
use Rattle.branch_removal.specs.Branches.{guarded}
use Rattle.branch_removal.proofs.branch.within.Given as goal

abbrev pub invariant-loop-branch : goal.invariant-loop-branch
invariant-loop-branch l =
    step_form l.moved ≡ fold (λ s b. guarded b s) (step_form l.initial.moved) (map (λ b. b.now) l.yielded)
