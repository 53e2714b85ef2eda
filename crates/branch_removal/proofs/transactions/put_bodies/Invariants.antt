use Rattle.std.proofs.Common.{◌≡◌, ◌+◌, map, ◌++◌, drop}
use Rattle.dom_ast.specs.Resolved.{bodies_form}
use Rattle.dom_ast.specs.Straight.{step_form}
use Rattle.branch_removal.specs.Branches.{bodies_steps, guards, ifs}
use Rattle.branch_removal.proofs.transactions.put_bodies.Given as goal

abbrev pub invariant-loop-guard : goal.invariant-loop-guard
invariant-loop-guard l = record {
  steps : map step_form l.steps ++ bodies_steps l.name l.free (bodies_form (drop l.guard-index l.bodies)) ≡ map step_form l.fn.steps ++ bodies_steps 0 l.next (bodies_form l.bodies);
  name : l.name + guards (bodies_form (drop l.guard-index l.bodies)) ≡ guards (bodies_form l.bodies);
  free : l.free + ifs (bodies_form (drop l.guard-index l.bodies)) ≡ l.next + ifs (bodies_form l.bodies);
}
