use Rattle.std.proofs.Common.{arith}
use Rattle.dom_parser.proofs.Transactions.{whole_heads, whole_transactions, whole_rest, reads_whole}
use Rattle.dom_parser.proofs.parser.program.Goals as goal

pub returns-then-next-tokens-clause-err : goal.returns-then-next-tokens-clause-err
returns-then-next-tokens-clause-err c =
    whole_rest c.args.tokens.now c.in-Ok.start c.in-Ok-transactions.next _ _ c.in-Ok.ensures.ok c.in-Ok-transactions.ensures.ok (omega arith)

pub returns-else-next-tokens-clause-ok : goal.returns-else-next-tokens-clause-ok
returns-else-next-tokens-clause-ok c =
    reads_whole c.args.tokens.now c.in-Ok.start c.in-Ok-transactions.next _ _ c.in-Ok.ensures.ok c.in-Ok-transactions.ensures.ok (omega arith)

pub returns-in-Err-transactions-clause-err : goal.returns-in-Err-transactions-clause-err
returns-in-Err-transactions-clause-err c =
    whole_transactions c.args.tokens.now c.in-Ok.start _ c.in-Err-transactions.fault c.in-Ok.ensures.ok c.in-Err-transactions.ensures.err

pub returns-in-Err-clause-err : goal.returns-in-Err-clause-err
returns-in-Err-clause-err c =
    whole_heads c.args.tokens.now c.in-Err.fault c.in-Err.ensures.err
