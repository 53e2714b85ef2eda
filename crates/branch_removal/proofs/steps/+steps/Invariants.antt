use Rattle.std.proofs.Common.{◌≡◌, ◌+◌, map, ◌++◌, drop}
use Rattle.dom_ast.specs.Resolved.{act_forms}
use Rattle.dom_ast.specs.Straight.{step_form}
use Rattle.branch_removal.specs.Branches.{acts_ifs, acts_steps}
use Rattle.branch_removal.specs.inner.Within.{within}
use Rattle.branch_removal.proofs.steps.+steps.Given as goal

abbrev pub invariant-put_acts-loop-act : goal.invariant-put_acts-loop-act
invariant-put_acts-loop-act l = record {
  steps : map step_form l.steps ++ map (within l.branches.items) (acts_steps l.free (act_forms (drop l.act-index l.acts))) ≡ map step_form l.fn.steps ++ map (within l.fn.branches.items) (acts_steps l.next (act_forms l.acts));
  free : l.free + acts_ifs (act_forms (drop l.act-index l.acts)) ≡ l.next + acts_ifs (act_forms l.acts);
  branches : l.branches.items ≡ l.fn.branches.items;
}
