use Rattle.dom_ast.specs.Form.{guard_form, stmt_forms}
use Rattle.dom_parser.proofs.Transactions.{transaction_guard, transaction_block, reads_transaction}
use Rattle.dom_parser.proofs.parser.described.Goals as goal

pub returns-in_ok-param-in-Ok-block-clause-ok : goal.returns-in_ok-param-in-Ok-block-clause-ok
returns-in_ok-param-in-Ok-block-clause-ok c =
    reads_transaction c.args.tokens.now c.args.at c.in-Ok.after c.in-Ok-block.next (guard_form c.in-Ok.guard) (stmt_forms c.in-Ok-block.body) _ c.requires.void c.requires.name c.requires.header c.in-Ok.ensures.ok c.in-Ok-block.ensures.ok (rw (c.offset.ensures, c.in_ok-tag-in-Ok-block.ensures.ok, c.offset-in-Ok-block.ensures, c.in_ok-param-in-Ok-block.ensures.ok))

pub returns-in-Err-block-clause-err : goal.returns-in-Err-block-clause-err
returns-in-Err-block-clause-err c =
    transaction_block _ c.args.tokens.now c.args.at c.in-Ok.after c.in-Err-block.fault c.requires.name c.requires.header c.in-Ok.ensures.ok c.in-Err-block.ensures.err

pub returns-in-Err-clause-err : goal.returns-in-Err-clause-err
returns-in-Err-clause-err c =
    transaction_guard c.args.tokens.now c.args.at c.in-Err.fault c.requires.name c.requires.header c.in-Err.ensures.err
