use Rattle.std.proofs.Common.{◌+◌, ℕ, List, ap, arith, rules, subst, sym}
use Rattle.codelets.specs.declared.codelet.Codelet.{Codelet}
use Rattle.stage_plan.specs.declared.place.Place.{Place}
use Rattle.plan_check.specs.Fronts.{number_form}
use Rattle.plan_check.specs.PlanText.{IsBadLine}
use Rattle.plan_check.proofs.ReadTo.{IsReadTo, bad_line, item_at, one_more, wrong_at, wrong_left}
use Rattle.plan_check.proofs.reading.read_plan.Goals as goal

pub returns-in_default-clause-refused : goal.returns-in_default-clause-refused
returns-in_default-clause-refused c =
    let list = c.list-list.result.now in
    let item = item_at list c.codelets.codelet-index c.codelet-item.result c.codelets-test.true c.codelet-item.is in
    subst (λ (cs : List Codelet). IsBadLine c.args.depth cs c.args.text.now (c.len.result + 1)) c.list-list.ensures.same
    (bad_line c.args.depth list c.args.text.now c.codelets.codelet-index (c.len.result + 1) c.codelets.places.items c.codelets.rest.now c.codelets.invariant (ap (λ (n : ℕ). n + 1) (search rules))
    (wrong_at c.args.depth list c.args.text.now c.codelets.codelet-index c.codelets.rest.now c.codelet-item.result item c.in_default.ensures.none))

pub codelets-preserved : goal.codelets-preserved
codelets-preserved c =
    let list = c.list-list.result.now in
    let item = item_at list c.codelets.codelet-index c.codelet-item.result c.codelets-test.true c.codelet-item.is in
    subst (λ (places : List Place). IsReadTo c.args.depth list c.args.text.now (c.codelets.codelet-index + 1) places c.in-Some.line.rest.now) (sym c.in-Ok.ensures.items)
    (one_more c.args.depth list c.args.text.now c.codelets.codelet-index c.codelets.places.items c.codelets.rest.now c.codelet-item.result (number_form c.in-Some.line) item c.codelets.invariant (sym c.in-Some.ensures.line))

pub returns-then-not-is_empty-clause-refused : goal.returns-then-not-is_empty-clause-refused
returns-then-not-is_empty-clause-refused c =
    let list = c.list-list.result.now in
    subst (λ (cs : List Codelet). IsBadLine c.args.depth cs c.args.text.now (c.len-then-not-is_empty.result + 1)) c.list-list.ensures.same
    (bad_line c.args.depth list c.args.text.now c.codelets.codelet-index (c.len-then-not-is_empty.result + 1) c.codelets.places.items c.codelets.rest.now c.codelets.invariant (ap (λ (n : ℕ). n + 1) (search rules))
    (wrong_left c.args.depth list c.args.text.now c.codelets.codelet-index c.codelets.rest.now c.is_empty.result c.is_empty.ensures c.if-not-is_empty.true (omega (arith, c.codelets-test.false))))
