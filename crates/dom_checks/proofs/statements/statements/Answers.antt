use Rattle.dom_ast.specs.Form.{stmt_forms}
use Rattle.dom_checks.proofs.Arms.{body_settled}
use Rattle.dom_checks.proofs.SoundStmts.{stmts_sound}
use Rattle.dom_checks.proofs.statements.statements.Goals as goal

pub returns-in-Ok-clause-within : goal.returns-in-Ok-clause-within
returns-in-Ok-clause-within c = (stmts_sound c.args.scope.now c.requires.numbers c.args.seen.now (stmt_forms c.args.stmts.now) c.in-Ok.ensures.holds).inside

pub returns-in-Ok-clause-kept : goal.returns-in-Ok-clause-kept
returns-in-Ok-clause-kept c = (stmts_sound c.args.scope.now c.requires.numbers c.args.seen.now (stmt_forms c.args.stmts.now) c.in-Ok.ensures.holds).kept

pub returns-in-Ok-clause-settled : goal.returns-in-Ok-clause-settled
returns-in-Ok-clause-settled c =
    body_settled c.args.scope.now c.args.seen.now _ (stmt_forms c.args.stmts.now) c.requires.numbers c.in-Ok.ensures.holds c.in-Ok.ensures.seen
