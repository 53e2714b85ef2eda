use Rattle.std.proofs.Common.{◌≡◌, ◌+◌, map, ◌++◌, drop}
use Rattle.dom_ast.specs.Resolved.{bodies_form}
use Rattle.dom_ast.specs.Straight.{step_form}
use Rattle.branch_removal.specs.Branches.{guard_steps, guards}
use Rattle.branch_removal.proofs.transactions.put_guards.Given as goal

abbrev pub invariant-loop-guard : goal.invariant-loop-guard
invariant-loop-guard l = record {
  steps : map step_form l.steps ++ guard_steps l.count (bodies_form (drop l.guard-index l.bodies)) ≡ map step_form l.fn.steps ++ guard_steps 0 (bodies_form l.bodies);
  count : l.count + guards (bodies_form (drop l.guard-index l.bodies)) ≡ guards (bodies_form l.bodies);
}
