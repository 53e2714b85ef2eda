use Rattle.std.proofs.Common.{sym}
use Rattle.dom_ast.specs.Form.{form}
use Rattle.dom_parser.proofs.Stmts.{target_plain, target_paren, no_field, target_with_field, no_index, target_with_index}
use Rattle.dom_parser.proofs.statements.target.Goals as goal

pub returns-then-not-is_name-clause-err : goal.returns-then-not-is_name-clause-err
returns-then-not-is_name-clause-err c =
    no_field c.args.depth c.args.tokens.now c.args.at c.requires.depth (sym c.in-Dot.ensures.value) (sym c.if-not-is_name.ensures.value)

pub returns-in_ok-name_at-in-Dot-2-clause-ok : goal.returns-in_ok-name_at-in-Dot-2-clause-ok
returns-in_ok-name_at-in-Dot-2-clause-ok c =
    rw (c.in_ok-name_at-in-Dot.ensures.ok, c.offset.ensures, c.in_ok-name_at-in-Dot-2.ensures.ok) (target_with_field c.args.depth c.args.tokens.now c.args.at c.requires.depth c.requires.lead (sym c.in-Dot.ensures.value) (sym c.if-not-is_name.ensures.value))

pub returns-in_ok-name_at-in-Ok-clause-ok : goal.returns-in_ok-name_at-in-Ok-clause-ok
returns-in_ok-name_at-in-Ok-clause-ok c =
    rw c.in_ok-name_at-in-Ok.ensures.ok (target_with_index c.args.depth c.args.tokens.now c.args.at c.in-Ok.next (form c.in-Ok.index) c.requires.lead (sym c.in-Bracket.ensures.value) c.in-Ok.ensures.ok)

pub returns-in-Err-clause-err : goal.returns-in-Err-clause-err
returns-in-Err-clause-err c =
    no_index c.args.depth c.args.tokens.now c.args.at c.in-Err.fault (sym c.in-Bracket.ensures.value) c.in-Err.ensures.err

pub returns-in_ok-name_at-in-Paren-clause-ok : goal.returns-in_ok-name_at-in-Paren-clause-ok
returns-in_ok-name_at-in-Paren-clause-ok c =
    rw c.in_ok-name_at-in-Paren.ensures.ok (target_paren c.args.depth c.args.tokens.now c.args.at c.requires.lead (sym c.in-Paren.ensures.value))

pub returns-in_ok-name_at-in-Other-clause-ok : goal.returns-in_ok-name_at-in-Other-clause-ok
returns-in_ok-name_at-in-Other-clause-ok c =
    rw c.in_ok-name_at-in-Other.ensures.ok (target_plain c.args.depth c.args.tokens.now c.args.at c.requires.lead (sym c.in-Other.ensures.value))
