use Rattle.std.proofs.Common.{◌≡◌, ◌++◌, [], map, drop}
use Rattle.dom_ast.specs.Form.{transaction_form}
use Rattle.dom_ast.specs.Resolved.{bodies_form}
use Rattle.dom_checks.specs.Resolve.{body_of}
use Rattle.dom_checks.specs.Walk.{first_fault, transactions_checks}
use Rattle.dom_checks.proofs.program.bodies.Given as goal

abbrev pub invariant-loop-transaction : goal.invariant-loop-transaction
invariant-loop-transaction l = record {
  scope : l.scope ≡ l.fn.scope;
  form : bodies_form l.bodies ++ map (body_of l.fn.scope) (map transaction_form (drop l.transaction-index l.transactions)) ≡ map (body_of l.fn.scope) (map transaction_form l.transactions);
  checks : first_fault (transactions_checks l.fn.scope [] (map transaction_form l.transactions)) ≡ first_fault (transactions_checks l.fn.scope l.seen (map transaction_form (drop l.transaction-index l.transactions)));
}
