use Rattle.std.proofs.lemmas.Result.{err_from_is_err_and}
use Rattle.dom_lexer.specs.declared.token.LexFault.TheVariants.{BadByte, OpenComment, BigLiteral, TooManyTokens}
use Rattle.dom_lexer.proofs.Steps.{grown, is_fault}
use Rattle.dom_lexer.proofs.Exact.{finished, exact_bad_byte, exact_open_comment, exact_big_literal, exact_too_many_tokens, only_memory}
use Rattle.dom_lexer.proofs.lexer.lex.Goals as goal

pub pieces-preserved : goal.pieces-preserved
pieces-preserved c = grown c.args.text.now c.pieces.at c.pieces.items c.in_ok-at.at c.piece.new.tokens c.pieces.invariant c.in_ok-at.ensures.ok

pub returns-in_err-at-clause-accepts : goal.returns-in_err-at-clause-accepts
returns-in_err-at-clause-accepts c =
    let fault = is_fault c.args.text.now c.pieces.at c.pieces.items c.in_err-at.field-0.0 c.pieces.invariant c.in_err-at.ensures.err in
    let p = err_from_is_err_and c.from_residual.result c.from_residual.ensures.1 in
    rw (p.1, p.2) (λ tokens lexed few. only_memory c.args.text.now c.in_err-at.field-0.0 tokens fault lexed few)

pub returns-in_err-at-clause-bad_byte : goal.returns-in_err-at-clause-bad_byte
returns-in_err-at-clause-bad_byte c =
    let fault = is_fault c.args.text.now c.pieces.at c.pieces.items c.in_err-at.field-0.0 c.pieces.invariant c.in_err-at.ensures.err in
    let p = err_from_is_err_and c.from_residual.result c.from_residual.ensures.1 in
    rw (p.1, p.2) (λ at. exact_bad_byte c.args.text.now c.in_err-at.field-0.0 at fault)

pub returns-clause-bad_byte : goal.returns-clause-bad_byte
returns-clause-bad_byte c = λ at. finished c.args.text.now c.pieces.at c.pieces.items _ (BadByte at) c.pieces.invariant c.pieces-test.false

pub returns-in_err-at-clause-open_comment : goal.returns-in_err-at-clause-open_comment
returns-in_err-at-clause-open_comment c =
    let fault = is_fault c.args.text.now c.pieces.at c.pieces.items c.in_err-at.field-0.0 c.pieces.invariant c.in_err-at.ensures.err in
    let p = err_from_is_err_and c.from_residual.result c.from_residual.ensures.1 in
    rw (p.1, p.2) (λ at. exact_open_comment c.args.text.now c.in_err-at.field-0.0 at fault)

pub returns-clause-open_comment : goal.returns-clause-open_comment
returns-clause-open_comment c = λ at. finished c.args.text.now c.pieces.at c.pieces.items _ (OpenComment at) c.pieces.invariant c.pieces-test.false

pub returns-in_err-at-clause-big_literal : goal.returns-in_err-at-clause-big_literal
returns-in_err-at-clause-big_literal c =
    let fault = is_fault c.args.text.now c.pieces.at c.pieces.items c.in_err-at.field-0.0 c.pieces.invariant c.in_err-at.ensures.err in
    let p = err_from_is_err_and c.from_residual.result c.from_residual.ensures.1 in
    rw (p.1, p.2) (λ at. exact_big_literal c.args.text.now c.in_err-at.field-0.0 at fault)

pub returns-clause-big_literal : goal.returns-clause-big_literal
returns-clause-big_literal c = λ at. finished c.args.text.now c.pieces.at c.pieces.items _ (BigLiteral at) c.pieces.invariant c.pieces-test.false

pub returns-in_err-at-clause-too_many_tokens : goal.returns-in_err-at-clause-too_many_tokens
returns-in_err-at-clause-too_many_tokens c =
    let fault = is_fault c.args.text.now c.pieces.at c.pieces.items c.in_err-at.field-0.0 c.pieces.invariant c.in_err-at.ensures.err in
    let p = err_from_is_err_and c.from_residual.result c.from_residual.ensures.1 in
    rw (p.1, p.2) (λ at. exact_too_many_tokens c.args.text.now c.in_err-at.field-0.0 at fault)

pub returns-clause-too_many_tokens : goal.returns-clause-too_many_tokens
returns-clause-too_many_tokens c = λ at. finished c.args.text.now c.pieces.at c.pieces.items _ (TooManyTokens at) c.pieces.invariant c.pieces-test.false
