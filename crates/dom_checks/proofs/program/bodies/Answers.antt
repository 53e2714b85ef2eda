use Rattle.std.proofs.Common.{◌≡◌, ◌+◌, ◌++◌, map, drop, subst, ap, ◌∙◌, None, arith}
use Rattle.std.proofs.lemmas.Result.{err_from_is_err_and}
use Rattle.dom_ast.specs.Form.{transaction_form}
use Rattle.dom_ast.specs.Resolved.{body_form}
use Rattle.dom_checks.specs.Resolve.{body_of}
use Rattle.dom_checks.specs.Scope.{with_param}
use Rattle.dom_checks.specs.Walk.{first_fault, stmts_mentions, transaction_checks}
use Rattle.dom_checks.proofs.HeadSteps.{drop_at}
use Rattle.dom_checks.proofs.Transactions.{first_of_transactions, one_more_body, transactions_left}
use Rattle.dom_checks.proofs.program.bodies.Goals as goal

pub returns-in_err-body-clause-fault : goal.returns-in_err-body-clause-fault
returns-in_err-body-clause-fault c =
    let all = c.args.transactions.now in
    let k = c.loop-transaction.transaction-index in
    let next = ap (map transaction_form) (drop_at all k c.transaction-item.result (omega arith) c.transaction-item.is) in
    let p = err_from_is_err_and c.from_residual.result c.from_residual.ensures.1 in
    rw (p.1, p.2)
    (first_of_transactions c.args.scope.now (map transaction_form all) (map transaction_form (drop k all)) (map transaction_form (drop (k + 1) all)) c.loop-transaction.seen (transaction_form c.transaction-item.result) next c.loop-transaction.invariant.checks
    c.in_err-body.field-0.0 (rw c.loop-transaction.invariant.scope at c.in_err-body.ensures.fault))

pub loop-transaction-preserved : goal.loop-transaction-preserved
loop-transaction-preserved c =
    let all = c.args.transactions.now in
    let k = c.loop-transaction.transaction-index in
    let t = transaction_form c.transaction-item.result in
    let next = ap (map transaction_form) (drop_at all k c.transaction-item.result (omega arith) c.transaction-item.is) in
    let same = c.loop-transaction.invariant.scope in
    let before = c.loop-transaction.seen in
    let form : body_form c.in_ok-body.body ≡ body_of c.args.scope.now t = subst (λ s. body_form c.in_ok-body.body ≡ body_of s t) same c.in_ok-body.ensures.form in
    let holds : first_fault (transaction_checks c.args.scope.now before t) ≡ None = subst (λ s. first_fault (transaction_checks s before t) ≡ None) same c.in_ok-body.ensures.holds in
    let seen : c.body.new.seen ≡ before ++ stmts_mentions (with_param c.args.scope.now t.param) t.body = subst (λ s. c.body.new.seen ≡ before ++ stmts_mentions (with_param s t.param) t.body) same c.in_ok-body.ensures.seen in
    record {
      scope = c.in_ok-body.ensures.scope ∙ same;
      form = one_more_body body_form c.args.scope.now c.loop-transaction.bodies c.push.new.self c.in_ok-body.body (map transaction_form all) (map transaction_form (drop k all)) (map transaction_form (drop (k + 1) all)) t c.in_ok-push.ensures.ok next form c.loop-transaction.invariant.form;
      checks = transactions_left c.args.scope.now (map transaction_form all) (map transaction_form (drop k all)) (map transaction_form (drop (k + 1) all)) c.loop-transaction.seen t next c.loop-transaction.invariant.checks c.body.new.seen holds seen;
    }
