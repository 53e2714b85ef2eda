use Rattle.plan_check.proofs.ReadTo.{IsReadTo}
use Rattle.plan_check.proofs.reading.read_plan.Given as goal

abbrev pub invariant-codelets : goal.invariant-codelets
invariant-codelets l = IsReadTo l.depth l.list l.text l.codelet-index l.places.items l.rest
