use Rattle.std.proofs.Common.{sym, arith}
use Rattle.dom_checks.proofs.Arms.{unit_fault, unit_holds}
use Rattle.dom_checks.proofs.expressions.unit_of.Goals as goal

pub returns-then-from-args-clause-holds : goal.returns-then-from-args-clause-holds
returns-then-from-args-clause-holds c =
    unit_holds c.args.scope.now c.args.at c.args.name.now c.args.args.now c.in-Some.unit (sym c.in-Some.ensures) (omega arith)

pub returns-else-from-args-clause-fault : goal.returns-else-from-args-clause-fault
returns-else-from-args-clause-fault c =
    unit_fault c.args.scope.now c.args.at c.args.name.now c.args.args.now c.in-Some.unit (sym c.in-Some.ensures) (λ e. c.if-from-args.false (omega arith))
