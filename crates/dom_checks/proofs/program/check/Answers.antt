use Rattle.std.proofs.Common.{◌≡◌, [], map, ap, ◌∙◌, None}
use Rattle.std.proofs.lemmas.Result.{err_from_is_err_and}
use Rattle.dom_ast.specs.Form.{program_form, transaction_form}
use Rattle.dom_ast.specs.PartSize.{bodies_nested}
use Rattle.dom_ast.specs.Resolved.{bodies_form}
use Rattle.dom_checks.specs.Answers.{IsFirst}
use Rattle.dom_checks.specs.Resolve.{body_of, resolved}
use Rattle.dom_checks.specs.Scope.{heads_scope, nothing}
use Rattle.dom_checks.specs.Walk.{first_fault, heads_checks, transactions_checks}
use Rattle.dom_checks.proofs.Numbers.{heads_numbers}
use Rattle.dom_checks.proofs.OneStruct.{heads_no_param, heads_some_field}
use Rattle.dom_checks.proofs.Sizes.{resolved_is_few, resolved_nested_alike}
use Rattle.dom_checks.proofs.SoundTransactions.{AreSoundBodies, one_index, transactions_sound}
use Rattle.dom_checks.proofs.Transactions.{first_in_heads, first_in_transactions, no_violation}
use Rattle.dom_checks.proofs.program.check.Goals as goal

pub returns-in_err-scope-clause-fault : goal.returns-in_err-scope-clause-fault
returns-in_err-scope-clause-fault c =
    let p = err_from_is_err_and c.from_residual.result c.from_residual.ensures.1 in
    rw (p.1, p.2) (first_in_heads (program_form c.args.program) c.in_err-scope.field-0.0 (rw c.as_slice.ensures at c.in_err-scope.ensures.fault))

pub bodies-requires-clause-numbers : goal.bodies-requires-clause-numbers
bodies-requires-clause-numbers c = rw c.in_ok-scope.ensures.scope (heads_numbers c.as_slice.result.now)

pub bodies-requires-clause-outside : goal.bodies-requires-clause-outside
bodies-requires-clause-outside c = rw c.in_ok-scope.ensures.scope (heads_no_param c.as_slice.result.now)

pub returns-in_err-bodies-clause-fault : goal.returns-in_err-bodies-clause-fault
returns-in_err-bodies-clause-fault c =
    let f = c.in_err-bodies.field-0.0 in
    let heads = c.args.program.heads in
    let transactions = c.args.program.transactions in
    let scope : c.in_ok-scope.scope ≡ heads_scope heads = c.in_ok-scope.ensures.scope ∙ ap heads_scope c.as_slice.ensures in
    let holds : first_fault (heads_checks nothing heads) ≡ None = rw c.as_slice.ensures at c.in_ok-scope.ensures.holds in
    let first : IsFirst f (transactions_checks (heads_scope heads) [] (map transaction_form transactions)) = rw (scope, c.as_slice-2.ensures) at c.in_err-bodies.ensures.fault in
    let p = err_from_is_err_and c.from_residual-in_err-bodies.result c.from_residual-in_err-bodies.ensures.1 in
    rw (p.1, p.2) (first_in_transactions (program_form c.args.program) f holds first)

pub invariant_of-result : goal.invariant_of-result
invariant_of-result c =
    let heads = c.args.program.heads in
    let transactions = map transaction_form c.args.program.transactions in
    let scope : c.in_ok-scope.scope ≡ heads_scope heads = c.in_ok-scope.ensures.scope ∙ ap heads_scope c.as_slice.ensures in
    let parts : c.bodies.new.scope ≡ heads_scope heads = c.in_ok-bodies.ensures.scope ∙ scope in
    let fields : c.into_parts-fields.result.0 ≡ (heads_scope heads).fields = c.into_parts-fields.ensures.fields ∙ ap (λ s. s.fields) parts in
    let arrays : c.into_parts-fields.result.1 ≡ (heads_scope heads).arrays = c.into_parts-fields.ensures.arrays ∙ ap (λ s. s.arrays) parts in
    let form : bodies_form c.in_ok-bodies.bodies ≡ map (body_of (heads_scope heads)) transactions = rw (scope, c.as_slice-2.ensures) at c.in_ok-bodies.ensures.form in
    let holds : first_fault (transactions_checks (heads_scope heads) [] transactions) ≡ None = rw (scope, c.as_slice-2.ensures) at c.in_ok-bodies.ensures.holds in
    let sound : AreSoundBodies (heads_scope heads) [] (map (body_of (heads_scope heads)) transactions) = transactions_sound (heads_scope heads) (heads_numbers heads) [] transactions holds in
    record {
      some_fields = rw fields (heads_some_field heads c.requires.one_struct);
      few_fields = rw c.into_parts-fields.ensures.fields c.into_parts-fields.ensures.few_fields;
      few_arrays = rw c.into_parts-fields.ensures.arrays c.into_parts-fields.ensures.few_arrays;
      lengths = rw c.into_parts-fields.ensures.arrays c.into_parts-fields.ensures.lengths;
      few_words = rw c.into_parts-fields.ensures.arrays c.into_parts-fields.ensures.few_words;
      ranges = rw (fields, arrays, form) sound.sound.inside;
      one_index = rw form (one_index (heads_scope heads) (map (body_of (heads_scope heads)) transactions) sound);
      kept_indexes = rw form sound.sound.kept;
      free_guards = rw form sound.free;
    }

pub returns-clause-well : goal.returns-clause-well
returns-clause-well c =
    let heads = c.args.program.heads in
    let transactions = map transaction_form c.args.program.transactions in
    let scope : c.in_ok-scope.scope ≡ heads_scope heads = c.in_ok-scope.ensures.scope ∙ ap heads_scope c.as_slice.ensures in
    let first : first_fault (heads_checks nothing heads) ≡ None = rw c.as_slice.ensures at c.in_ok-scope.ensures.holds in
    let holds : first_fault (transactions_checks (heads_scope heads) [] transactions) ≡ None = rw (scope, c.as_slice-2.ensures) at c.in_ok-bodies.ensures.holds in
    no_violation (program_form c.args.program) first holds

pub returns-clause-nodes : goal.returns-clause-nodes
returns-clause-nodes c =
    let heads = c.args.program.heads in
    let scope : c.in_ok-scope.scope ≡ heads_scope heads = c.in_ok-scope.ensures.scope ∙ ap heads_scope c.as_slice.ensures in
    let form : bodies_form c.in_ok-bodies.bodies ≡ (resolved (program_form c.args.program)).bodies = rw (scope, c.as_slice-2.ensures) at c.in_ok-bodies.ensures.form in
    rw form (resolved_is_few (program_form c.args.program))

pub returns-clause-nested : goal.returns-clause-nested
returns-clause-nested c =
    let heads = c.args.program.heads in
    let scope : c.in_ok-scope.scope ≡ heads_scope heads = c.in_ok-scope.ensures.scope ∙ ap heads_scope c.as_slice.ensures in
    let form : bodies_form c.in_ok-bodies.bodies ≡ (resolved (program_form c.args.program)).bodies = rw (scope, c.as_slice-2.ensures) at c.in_ok-bodies.ensures.form in
    λ d nested. ap (bodies_nested d) form ∙ resolved_nested_alike d (program_form c.args.program) ∙ nested
