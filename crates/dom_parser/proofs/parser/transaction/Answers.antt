use Rattle.std.proofs.Common.{sym}
use Rattle.dom_parser.proofs.Transactions.{transaction_name, transaction_header}
use Rattle.dom_parser.proofs.parser.transaction.Goals as goal

pub returns-then-not-is_name-clause-err : goal.returns-then-not-is_name-clause-err
returns-then-not-is_name-clause-err c =
    transaction_name c.args.tokens.now c.args.at (sym c.if-not-is_name.ensures.value)

pub returns-in-Err-clause-err : goal.returns-in-Err-clause-err
returns-in-Err-clause-err c =
    transaction_header c.args.tokens.now c.args.at c.in-Err.fault (sym c.if-not-is_name.ensures.value) c.in-Err.ensures.err
