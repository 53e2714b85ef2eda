use Rattle.std.proofs.Common.{subst}
use Rattle.std.specs.Prelude.{List}
use Rattle.dom_ast.specs.declared.program.Head.{Head}
use Rattle.dom_parser.specs.inner.HeadReads.{ReadsDecls}
use Rattle.dom_parser.proofs.Transactions.{heads_before, heads_struct, heads_after, reads_heads}
use Rattle.dom_parser.proofs.parser.all_heads.Goals as goal

pub returns-in-Ok-declarations-clause-ok : goal.returns-in-Ok-declarations-clause-ok
returns-in-Ok-declarations-clause-ok c =
    reads_heads c.args.tokens.now c.in-Ok.at c.in-Ok-structure.after c.in-Ok-declarations.next c.in-Ok.before c.add.new.to c.in-Ok-declarations.all c.in-Ok-structure.head (subst (λ (x : List Head). ReadsDecls c.args.tokens.now 0 c.in-Ok.at x c.in-Ok.before) c.new.ensures c.in-Ok.ensures.ok) c.in-Ok-structure.ensures.ok c.in_ok-add-in-Ok-structure.ensures.ok c.in-Ok-declarations.ensures.ok

pub returns-in-Err-declarations-clause-err : goal.returns-in-Err-declarations-clause-err
returns-in-Err-declarations-clause-err c =
    heads_after _ c.args.tokens.now c.in-Ok.at c.in-Ok-structure.after c.in-Ok.before c.in-Err-declarations.fault (subst (λ (x : List Head). ReadsDecls c.args.tokens.now 0 c.in-Ok.at x c.in-Ok.before) c.new.ensures c.in-Ok.ensures.ok) c.in-Ok-structure.ensures.ok c.in-Err-declarations.ensures.err

pub returns-in-Err-structure-clause-err : goal.returns-in-Err-structure-clause-err
returns-in-Err-structure-clause-err c =
    heads_struct c.args.tokens.now c.in-Ok.at c.in-Ok.before c.in-Err-structure.fault (subst (λ (x : List Head). ReadsDecls c.args.tokens.now 0 c.in-Ok.at x c.in-Ok.before) c.new.ensures c.in-Ok.ensures.ok) c.in-Err-structure.ensures.err

pub returns-in-Err-clause-err : goal.returns-in-Err-clause-err
returns-in-Err-clause-err c =
    heads_before c.args.tokens.now c.in-Err.fault c.in-Err.ensures.err
