use Rattle.std.proofs.Common.{sym}
use Rattle.dom_parser.proofs.Transactions.{no_transaction, first_fails_so}
use Rattle.dom_parser.proofs.parser.transactions.Goals as goal

pub returns-then-not-is_fixed-clause-err : goal.returns-then-not-is_fixed-clause-err
returns-then-not-is_fixed-clause-err c =
    no_transaction c.args.tokens.now c.args.at (sym c.if-not-is_fixed.ensures.value)

pub returns-in-Err-clause-err : goal.returns-in-Err-clause-err
returns-in-Err-clause-err c =
    first_fails_so c.args.tokens.now c.args.at c.in-Err.fault (sym c.if-not-is_fixed.ensures.value) c.in-Err.ensures.err
