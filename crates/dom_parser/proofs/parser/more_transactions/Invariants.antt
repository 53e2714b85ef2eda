use Rattle.std.proofs.Common.{◌-◌, length, map}
use Rattle.dom_ast.specs.Form.{transaction_form}
use Rattle.dom_parser.proofs.SoFar.{TransactionsSoFar}
use Rattle.dom_parser.proofs.parser.more_transactions.Given as goal

abbrev pub invariant-transactions : goal.invariant-transactions
invariant-transactions l = TransactionsSoFar l.tokens l.at l.next (map transaction_form l.transactions)

abbrev pub decreases-transactions : goal.decreases-transactions
decreases-transactions l = length l.tokens - l.next
