use Rattle.std.proofs.Common.{◌≡◌, ◌≤◌, length, map}
use Rattle.dom_ast.specs.Flanks.{flank_form}
use Rattle.ssa_names.specs.inner.Tables.{tabled, tabled_of}
use Rattle.ssa_names.proofs.naming.walked.Given as goal

abbrev pub invariant-loop-item : goal.invariant-loop-item
invariant-loop-item l = record {
  list : tabled_of l.walk ≡ tabled l.fields l.arrays l.fresh (map flank_form l.yielded);
  few : length l.walk.items ≤ length l.yielded;
}
