use Rattle.std.proofs.Common.{sym}
use Rattle.dom_ast.specs.Form.{transaction_form}
use Rattle.dom_parser.proofs.Transactions.{transactions_start, transactions_next, transactions_fail, reads_transactions}
use Rattle.dom_parser.proofs.parser.more_transactions.Goals as goal

pub transactions-init : goal.transactions-init
transactions-init c =
    rw (c.in_ok-add.ensures.ok, c.new-transactions.ensures) (transactions_start c.args.tokens.now c.args.at c.args.start (transaction_form c.args.first) c.requires.void c.requires.first)

pub transactions-preserved : goal.transactions-preserved
transactions-preserved c =
    transactions_next c.args.tokens.now c.args.at c.transactions.next c.in-Ok.after c.transactions.transactions c.add-in-Ok.new.to c.in-Ok.more c.transactions.invariant (sym c.transactions-test.ensures.value) c.in-Ok.ensures.ok c.in_ok-add-in-Ok.ensures.ok

pub returns-in-Err-clause-err : goal.returns-in-Err-clause-err
returns-in-Err-clause-err c =
    transactions_fail c.args.tokens.now c.args.at c.transactions.next _ c.in-Err.fault c.transactions.invariant (sym c.transactions-test.ensures.value) c.in-Err.ensures.err

pub returns-clause-ok : goal.returns-clause-ok
returns-clause-ok c =
    reads_transactions c.args.tokens.now c.args.at c.transactions.next _ c.transactions.invariant (sym c.transactions-test.ensures.value)
