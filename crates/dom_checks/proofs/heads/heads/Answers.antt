use Rattle.std.proofs.Common.{arith}
use Rattle.std.proofs.lemmas.Result.{err_from_is_err_and}
use Rattle.dom_checks.proofs.HeadSteps.{drop_at, first_of_heads, left_to_check, left_to_declare}
use Rattle.dom_checks.proofs.heads.heads.Goals as goal

pub returns-in_err-scope-2-clause-fault : goal.returns-in_err-scope-2-clause-fault
returns-in_err-scope-2-clause-fault c =
    let next = drop_at c.args.heads.now c.loop-head.head-index c.head-item.result (omega arith) c.head-item.is in
    let p = err_from_is_err_and c.from_residual-in_err-scope-2.result c.from_residual-in_err-scope-2.ensures.1 in
    rw (p.1, p.2) (first_of_heads c.args.heads.now c.loop-head.head-index c.head-item.result c.loop-head.scope next c.in_err-scope-2.field-0.0 c.in_err-scope-2.ensures.fault c.loop-head.invariant.checks)

pub loop-head-preserved : goal.loop-head-preserved
loop-head-preserved c =
    let next = drop_at c.args.heads.now c.loop-head.head-index c.head-item.result (omega arith) c.head-item.is in
    let declared = c.in_ok-scope-2.ensures.scope in
    record {
      scope = left_to_declare c.args.heads.now c.loop-head.head-index c.head-item.result c.loop-head.scope next c.in_ok-scope-2.scope declared c.loop-head.invariant.scope;
      checks = left_to_check c.args.heads.now c.loop-head.head-index c.head-item.result c.loop-head.scope next c.in_ok-scope-2.scope declared c.in_ok-scope-2.ensures.holds c.loop-head.invariant.checks;
    }
