use Rattle.dom_checks.proofs.Arms.{guard_free, guard_inside, guard_seen}
use Rattle.dom_checks.proofs.expressions.guard.Goals as goal

pub returns-in-Ok-clause-seen : goal.returns-in-Ok-clause-seen
returns-in-Ok-clause-seen c =
    guard_seen c.args.scope.now c.requires.numbers c.args.seen.now c.args.guard.now c.in-Some.expr c.in-Some.is c.in-Ok.ensures.holds _ c.in-Ok.ensures.seen

pub returns-in-Ok-clause-within : goal.returns-in-Ok-clause-within
returns-in-Ok-clause-within c =
    guard_inside c.args.scope.now c.requires.numbers c.args.seen.now c.args.guard.now c.in-Some.expr c.in-Some.is c.in-Ok.ensures.holds

pub returns-in-Ok-clause-free : goal.returns-in-Ok-clause-free
returns-in-Ok-clause-free c =
    guard_free c.args.scope.now c.requires.numbers c.args.seen.now c.args.guard.now c.in-Some.expr c.in-Some.is c.in-Ok.ensures.holds
