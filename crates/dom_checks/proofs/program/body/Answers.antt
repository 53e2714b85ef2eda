use Rattle.std.proofs.Common.{◌≡◌, true, None, ap, ◌∙◌, rules}
use Rattle.std.proofs.lemmas.Result.{err_from_is_err_and}
use Rattle.dom_words.specs.Names.{is_same}
use Rattle.dom_ast.specs.Form.{transaction_form}
use Rattle.dom_checks.specs.Answers.{IsFirst}
use Rattle.dom_checks.specs.Scope.{with_param}
use Rattle.dom_checks.specs.Walk.{first_fault, name_checks, stmts_checks}
use Rattle.dom_checks.proofs.Transactions.{first_in_body, first_in_guard, transaction_holds}
use Rattle.dom_checks.proofs.program.body.Goals as goal

pub returns-in_err-guard-clause-fault : goal.returns-in_err-guard-clause-fault
returns-in_err-guard-clause-fault c =
    let t = transaction_form c.args.transaction.now in
    let inner : c.declare_param.new.self ≡ with_param c.args.scope.now t.param = c.declare_param.ensures ∙ ap (with_param c.args.scope.now) (c.in_ok-param.ensures ∙ c.as_bytes-3.ensures) in
    let tag : is_same t.tag c.args.scope.now.tag ≡ true = search rules in
    let names : first_fault (name_checks c.args.scope.now t.param_at t.param) ≡ None = search rules in
    let p = err_from_is_err_and c.from_residual-in_err-guard.result c.from_residual-in_err-guard.ensures.1 in
    rw (p.1, p.2) (first_in_guard c.args.scope.now c.declare_param.new.self c.args.seen.now t inner tag names c.in_err-guard.field-0.0 c.in_err-guard.ensures.fault)

pub returns-in_err-acts-clause-fault : goal.returns-in_err-acts-clause-fault
returns-in_err-acts-clause-fault c =
    let t = transaction_form c.args.transaction.now in
    let inner : c.declare_param.new.self ≡ with_param c.args.scope.now t.param = c.declare_param.ensures ∙ ap (with_param c.args.scope.now) (c.in_ok-param.ensures ∙ c.as_bytes-3.ensures) in
    let tag : is_same t.tag c.args.scope.now.tag ≡ true = search rules in
    let names : first_fault (name_checks c.args.scope.now t.param_at t.param) ≡ None = search rules in
    let first : IsFirst c.in_err-acts.field-0.0 (stmts_checks c.declare_param.new.self c.args.seen.now t.body) = rw (c.in_ok-guard.ensures.seen, c.as_slice.ensures) at c.in_err-acts.ensures.fault in
    let p = err_from_is_err_and c.from_residual-in_err-acts.result c.from_residual-in_err-acts.ensures.1 in
    rw (p.1, p.2) (first_in_body c.args.scope.now c.declare_param.new.self c.args.seen.now t inner tag names c.in_err-acts.field-0.0 c.in_ok-guard.ensures.holds first)

pub returns-clause-holds : goal.returns-clause-holds
returns-clause-holds c =
    let t = transaction_form c.args.transaction.now in
    let inner : c.declare_param.new.self ≡ with_param c.args.scope.now t.param = c.declare_param.ensures ∙ ap (with_param c.args.scope.now) (c.in_ok-param.ensures ∙ c.as_bytes-3.ensures) in
    let tag : is_same t.tag c.args.scope.now.tag ≡ true = search rules in
    let names : first_fault (name_checks c.args.scope.now t.param_at t.param) ≡ None = search rules in
    let holds : first_fault (stmts_checks c.declare_param.new.self c.args.seen.now t.body) ≡ None = rw (c.in_ok-guard.ensures.seen, c.as_slice.ensures) at c.in_ok-acts.ensures.holds in
    transaction_holds c.args.scope.now c.declare_param.new.self c.args.seen.now t inner tag names c.in_ok-guard.ensures.holds holds
