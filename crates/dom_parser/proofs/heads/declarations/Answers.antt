use Rattle.std.proofs.Common.{sym, arith}
use Rattle.dom_parser.proofs.HeadParts.{decls_start, decls_next, decl_fails, reads_decls}
use Rattle.dom_parser.proofs.heads.declarations.Goals as goal

pub declarations-init : goal.declarations-init
declarations-init c =
    decls_start c.args.tokens.now c.args.at c.args.so_far (omega arith)

pub declarations-preserved : goal.declarations-preserved
declarations-preserved c =
    decls_next c.args.tokens.now c.args.at c.declarations.next c.in-Ok.after c.args.so_far c.declarations.heads c.add.new.to c.in-Ok.head c.declarations.invariant (sym c.declarations-test.ensures.value) c.in-Ok.ensures.ok c.in_ok-add-in-Ok.ensures.ok

pub returns-in-Err-clause-err : goal.returns-in-Err-clause-err
returns-in-Err-clause-err c =
    decl_fails c.args.tokens.now c.args.at c.declarations.next c.args.so_far _ c.in-Err.fault c.declarations.invariant (sym c.declarations-test.ensures.value) c.in-Err.ensures.err

pub returns-clause-ok : goal.returns-clause-ok
returns-clause-ok c =
    reads_decls c.args.tokens.now c.args.at c.declarations.next c.args.so_far c.declarations.heads c.declarations.invariant (sym c.declarations-test.ensures.value)
