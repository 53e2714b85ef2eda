use Rattle.std.proofs.Common.{◌≡◌, drop, fold}
use Rattle.dom_checks.specs.Scope.{declared, heads_scope, nothing}
use Rattle.dom_checks.specs.Walk.{heads_checks, first_fault}
use Rattle.dom_checks.proofs.heads.heads.Given as goal

abbrev pub invariant-loop-head : goal.invariant-loop-head
invariant-loop-head l = record {
  scope : fold declared l.scope (drop l.head-index l.heads) ≡ heads_scope l.heads;
  checks : first_fault (heads_checks nothing l.heads) ≡ first_fault (heads_checks l.scope (drop l.head-index l.heads));
}
