use Rattle.std.proofs.Common.{drop, map}
use Rattle.dom_ast.specs.Form as syntax
use Rattle.dom_ast.specs.Resolved as tree
use Rattle.dom_checks.proofs.Walked.{StmtsLeft}
use Rattle.dom_checks.proofs.statements.+statements.Given as goal

abbrev pub invariant-block-statements : goal.invariant-block-statements
invariant-block-statements l =
    StmtsLeft l.scope l.fn.seen l.seen (map tree.act_form l.acts) (syntax.stmt_forms l.stmts) (syntax.stmt_forms (drop l.stmt-index l.stmts))
