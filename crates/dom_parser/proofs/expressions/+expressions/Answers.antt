use Rattle.std.proofs.Common.{sym, ◌∙◌, arith}
use Rattle.dom_ast.specs.Form.{form}
use Rattle.dom_parser.specs.Grammar.{top}
use Rattle.dom_parser.specs.inner.Following.{level}
use Rattle.dom_parser.proofs.Exprs.{fails_lower, fails_first, level_next, level_fails, level_one, plain_choice, choice_deep, choice_fails, choice_colon, choice_other, full_choice, operated_deep, operated_fails, fails_other, reads_parens, fails_parens, reads_index, fails_index, fails_call, in_deep, in_fails, in_open, in_closed, args_deep, reads_empty, args_fail, args_start, args_next, args_next_fails, args_open, args_closed, as_form, number_read, negated_read, word_read, call_read, operated_read, chain_read}
use Rattle.dom_parser.proofs.expressions.+expressions.Goals as goal

pub arguments-returns-then-depth-eq-MOST_OPEN-clause-err : goal.arguments-returns-then-depth-eq-MOST_OPEN-clause-err
arguments-returns-then-depth-eq-MOST_OPEN-clause-err t c = args_deep c.args.depth c.args.tokens.now c.args.at c.requires.bracket c.if-depth-eq-MOST_OPEN.true

pub arguments-returns-then-is_fixed-clause-ok : goal.arguments-returns-then-is_fixed-clause-ok
arguments-returns-then-is_fixed-clause-ok t c =
    rw c.new.ensures (reads_empty c.args.depth c.args.tokens.now c.args.at c.requires.bracket (omega arith) (sym c.if-is_fixed.ensures.value))

pub arguments-returns-in-Err-clause-err : goal.arguments-returns-in-Err-clause-err
arguments-returns-in-Err-clause-err t c =
    args_fail c.args.depth c.args.tokens.now c.args.at c.in-Err.fault c.requires.bracket (omega arith) (sym c.if-is_fixed.ensures.value) c.in-Err.ensures.err

pub conditional-returns-then-not-is_fixed-clause-ok : goal.conditional-returns-then-not-is_fixed-clause-ok
conditional-returns-then-not-is_fixed-clause-ok t c =
    plain_choice c.args.depth c.args.tokens.now c.args.at c.args.start (form c.args.test) c.requires.first (sym c.if-not-is_fixed.ensures.value)

pub conditional-returns-then-depth-eq-MOST_OPEN-clause-err : goal.conditional-returns-then-depth-eq-MOST_OPEN-clause-err
conditional-returns-then-depth-eq-MOST_OPEN-clause-err t c =
    choice_deep c.args.depth _ c.args.tokens.now c.args.at c.args.start c.requires.first (sym c.if-not-is_fixed.ensures.value) c.if-depth-eq-MOST_OPEN.true

pub conditional-returns-in_ok-choice-in-Ok-expression-clause-ok : goal.conditional-returns-in_ok-choice-in-Ok-expression-clause-ok
conditional-returns-in_ok-choice-in-Ok-expression-clause-ok t c =
    as_form (level top) c.args.depth top c.args.tokens.now c.args.at c.in-Ok-expression.next _ _ c.in_ok-choice-in-Ok-expression.ensures.ok (full_choice c.args.depth c.args.tokens.now c.args.at c.args.start c.in-Ok.colon c.in-Ok-expression.next (form c.args.test) (form c.in-Ok.yes) (form c.in-Ok-expression.no) c.requires.first (sym c.if-not-is_fixed.ensures.value) (omega arith) c.in-Ok.ensures.ok (sym c.if-is_fixed.ensures.value) c.in-Ok-expression.ensures.ok)

pub conditional-returns-in-Err-expression-clause-err : goal.conditional-returns-in-Err-expression-clause-err
conditional-returns-in-Err-expression-clause-err t c =
    choice_other c.args.depth _ _ c.args.tokens.now c.args.at c.args.start c.in-Ok.colon c.in-Err-expression.fault c.requires.first (sym c.if-not-is_fixed.ensures.value) (omega arith) c.in-Ok.ensures.ok (sym c.if-is_fixed.ensures.value) c.in-Err-expression.ensures.err

pub conditional-returns-else-is_fixed-clause-err : goal.conditional-returns-else-is_fixed-clause-err
conditional-returns-else-is_fixed-clause-err t c =
    choice_colon c.args.depth _ _ c.args.tokens.now c.args.at c.args.start c.in-Ok.colon c.requires.first (sym c.if-not-is_fixed.ensures.value) (omega arith) c.in-Ok.ensures.ok (sym c.if-is_fixed.ensures.value)

pub conditional-returns-in-Err-clause-err : goal.conditional-returns-in-Err-clause-err
conditional-returns-in-Err-clause-err t c =
    choice_fails c.args.depth _ c.args.tokens.now c.args.at c.args.start c.in-Err.fault c.requires.first (sym c.if-not-is_fixed.ensures.value) (omega arith) c.in-Err.ensures.err

pub enclosed-returns-then-depth-eq-MOST_OPEN-clause-err : goal.enclosed-returns-then-depth-eq-MOST_OPEN-clause-err
enclosed-returns-then-depth-eq-MOST_OPEN-clause-err t c = in_deep c.args.partner c.args.depth c.args.tokens.now c.args.at c.if-depth-eq-MOST_OPEN.true

pub enclosed-returns-then-is_fixed-clause-ok : goal.enclosed-returns-then-is_fixed-clause-ok
enclosed-returns-then-is_fixed-clause-ok t c =
    in_closed c.args.partner c.args.depth c.args.tokens.now c.args.at c.in-Ok.next (form c.in-Ok.inner) (omega arith) c.in-Ok.ensures.ok (sym c.if-is_fixed.ensures.value)

pub enclosed-returns-else-is_fixed-clause-err : goal.enclosed-returns-else-is_fixed-clause-err
enclosed-returns-else-is_fixed-clause-err t c =
    in_open c.args.partner c.args.depth _ c.args.tokens.now c.args.at c.in-Ok.next (omega arith) c.in-Ok.ensures.ok (sym c.if-is_fixed.ensures.value)

pub enclosed-returns-in-Err-clause-err : goal.enclosed-returns-in-Err-clause-err
enclosed-returns-in-Err-clause-err t c = in_fails c.args.partner c.args.depth c.args.tokens.now c.args.at c.in-Err.fault (omega arith) c.in-Err.ensures.err

pub expression-returns-in-Err-clause-err : goal.expression-returns-in-Err-clause-err
expression-returns-in-Err-clause-err t c = fails_lower c.args.depth 10 c.args.tokens.now c.args.at c.in-Err.fault c.in-Err.ensures.err

pub more_arguments-arguments-init : goal.more_arguments-arguments-init
more_arguments-arguments-init t c =
    rw (c.in_ok-add_argument.ensures.ok, c.new-args.ensures) (args_start c.args.depth c.args.tokens.now c.args.at c.args.start (form c.args.first) c.requires.bracket c.requires.depth c.requires.some c.requires.first)

pub more_arguments-arguments-preserved : goal.more_arguments-arguments-preserved
more_arguments-arguments-preserved t c =
    args_next c.args.depth c.args.tokens.now c.args.at c.arguments.next c.in-Ok.after c.arguments.args c.add_argument-in-Ok.new.to c.in-Ok.arg c.requires.depth c.arguments.invariant (sym c.arguments-test.ensures.value) c.in-Ok.ensures.ok c.in_ok-add_argument-in-Ok.ensures.ok

pub more_arguments-returns-in-Err-clause-err : goal.more_arguments-returns-in-Err-clause-err
more_arguments-returns-in-Err-clause-err t c =
    args_next_fails c.args.depth c.args.tokens.now c.args.at c.arguments.next _ c.in-Err.fault c.requires.depth c.arguments.invariant (sym c.arguments-test.ensures.value) c.in-Err.ensures.err

pub more_arguments-returns-then-is_fixed-clause-ok : goal.more_arguments-returns-then-is_fixed-clause-ok
more_arguments-returns-then-is_fixed-clause-ok t c =
    args_closed c.args.depth c.args.tokens.now c.args.at c.arguments.next c.arguments.args c.requires.depth c.arguments.invariant (sym c.arguments-test.ensures.value) (sym c.if-is_fixed.ensures.value)

pub more_arguments-returns-else-is_fixed-clause-err : goal.more_arguments-returns-else-is_fixed-clause-err
more_arguments-returns-else-is_fixed-clause-err t c =
    args_open c.args.depth c.args.tokens.now c.args.at c.arguments.next _ c.requires.depth c.arguments.invariant (sym c.arguments-test.ensures.value) (sym c.if-is_fixed.ensures.value)

pub named-returns-in_ok-indexed-in-Ok-clause-ok : goal.named-returns-in_ok-indexed-in-Ok-clause-ok
named-returns-in_ok-indexed-in-Ok-clause-ok t c =
    as_form (level 0) c.args.depth 0 c.args.tokens.now c.args.at c.in-Ok.next _ _ c.in_ok-indexed-in-Ok.ensures.ok (reads_index c.args.depth c.args.tokens.now c.args.at c.in-Ok.next (form c.in-Ok.index) c.requires.depth c.requires.name (sym c.in-Bracket.ensures.value) c.in-Ok.ensures.ok)

pub named-returns-in-Err-clause-err : goal.named-returns-in-Err-clause-err
named-returns-in-Err-clause-err t c =
    fails_index c.args.depth c.args.tokens.now c.args.at c.in-Err.fault c.requires.depth c.requires.name (sym c.in-Bracket.ensures.value) c.in-Err.ensures.err

pub named-returns-in_ok-name_at-in-Ok-arguments-clause-ok : goal.named-returns-in_ok-name_at-in-Ok-arguments-clause-ok
named-returns-in_ok-name_at-in-Ok-arguments-clause-ok t c =
    call_read c.args.depth c.args.tokens.now c.args.at c.in-Ok-arguments.next c.offset.result c.in_ok-name_at-in-Ok-arguments.field-0 c.in-Ok-arguments.args c.requires.depth c.requires.name (sym c.in-Paren.ensures.value) c.in-Ok-arguments.ensures.ok c.offset.ensures c.in_ok-name_at-in-Ok-arguments.ensures.ok

pub named-returns-in-Err-arguments-clause-err : goal.named-returns-in-Err-arguments-clause-err
named-returns-in-Err-arguments-clause-err t c =
    fails_call c.args.depth c.args.tokens.now c.args.at c.in-Err-arguments.fault c.requires.depth c.requires.name c.in-Err-arguments.ensures.err

pub named-returns-in_ok-name_at-in-Other-clause-ok : goal.named-returns-in_ok-name_at-in-Other-clause-ok
named-returns-in_ok-name_at-in-Other-clause-ok t c =
    word_read c.args.depth c.args.tokens.now c.args.at c.offset-in-Other.result c.in_ok-name_at-in-Other.field-0 c.requires.depth c.requires.name (sym c.in-Other.ensures.value) c.offset-in-Other.ensures c.in_ok-name_at-in-Other.ensures.ok

pub operands-operands-preserved : goal.operands-operands-preserved
operands-operands-preserved t c =
    level_next c.args.depth c.args.rank c.args.tokens.now c.args.at c.operands.next c.in-Ok.after _ c.operands.rest c.add_operand.new.to c.in-Some.op c.in-Ok.operand c.requires.positive c.requires.rank c.requires.depth c.operands.invariant (sym c.in-Some.ensures.value) c.in-Ok.ensures.ok c.in_ok-add_operand-in-Ok.ensures.ok

pub operands-returns-in-Err-clause-err : goal.operands-returns-in-Err-clause-err
operands-returns-in-Err-clause-err t c =
    level_fails c.args.depth c.args.rank c.args.tokens.now c.args.at c.operands.next _ _ c.in-Some.op c.in-Err.fault c.requires.positive c.requires.rank c.requires.depth c.operands.invariant (sym c.in-Some.ensures.value) c.in-Err.ensures.err

pub operands-returns-then-len-eq0-clause-ok : goal.operands-returns-then-len-eq0-clause-ok
operands-returns-then-len-eq0-clause-ok t c =
    level_one c.args.depth c.args.rank c.args.tokens.now c.args.at c.operands.next _ c.operands.rest c.requires.positive c.requires.rank c.operands.invariant (sym c.operator_at.ensures.value ∙ c.in_default.is) (sym c.len.ensures ∙ c.if-len-eq0.true)

pub operands-returns-in-Ok-new-clause-ok : goal.operands-returns-in-Ok-new-clause-ok
operands-returns-in-Ok-new-clause-ok t c =
    chain_read c.args.depth c.args.rank c.args.tokens.now c.args.at c.operands.next c.in-Ok-new.first c.operands.rest _ c.requires.positive c.requires.rank c.operands.invariant (sym c.operator_at.ensures.value ∙ c.in_default.is) (λ e. c.if-len-eq0.false (c.len.ensures ∙ e)) c.in-Ok-new.ensures.ok

pub operated-returns-then-depth-eq-MOST_OPEN-clause-err : goal.operated-returns-then-depth-eq-MOST_OPEN-clause-err
operated-returns-then-depth-eq-MOST_OPEN-clause-err t c =
    operated_deep c.args.depth c.args.tokens.now c.args.at c.args.op c.requires.op c.requires.node c.if-depth-eq-MOST_OPEN.true

pub operated-returns-in_ok-arg-in-Ok-clause-ok : goal.operated-returns-in_ok-arg-in-Ok-clause-ok
operated-returns-in_ok-arg-in-Ok-clause-ok t c =
    operated_read c.args.depth c.args.tokens.now c.args.at c.in-Ok.next c.args.op c.offset-at.result c.in_ok-arg-in-Ok.arg c.in-Ok.operand c.requires.op c.requires.node (omega arith) c.in-Ok.ensures.ok c.offset-at.ensures c.in_ok-arg-in-Ok.ensures.ok

pub operated-returns-in-Err-clause-err : goal.operated-returns-in-Err-clause-err
operated-returns-in-Err-clause-err t c =
    operated_fails c.args.depth c.args.tokens.now c.args.at c.args.op c.in-Err.fault c.requires.op c.requires.node (omega arith) c.in-Err.ensures.err

pub primary-returns-in-Number-clause-ok : goal.primary-returns-in-Number-clause-ok
primary-returns-in-Number-clause-ok t c =
    number_read c.args.depth c.args.tokens.now c.args.at c.in-Number.word c.offset.result c.requires.depth (sym c.in-Number.ensures.value) c.offset.ensures

pub primary-returns-in-Ok-clause-ok : goal.primary-returns-in-Ok-clause-ok
primary-returns-in-Ok-clause-ok t c =
    reads_parens c.args.depth c.args.tokens.now c.args.at c.in-Ok.next (form c.in-Ok.inner) (sym c.in-Paren.ensures.value) c.in-Ok.ensures.ok

pub primary-returns-in-Err-clause-err : goal.primary-returns-in-Err-clause-err
primary-returns-in-Err-clause-err t c =
    fails_parens c.args.depth c.args.tokens.now c.args.at c.in-Err.fault (sym c.in-Paren.ensures.value) c.in-Err.ensures.err

pub primary-returns-in-Other-clause-err : goal.primary-returns-in-Other-clause-err
primary-returns-in-Other-clause-err t c =
    fails_other c.args.depth c.args.tokens.now c.args.at c.requires.bare (sym c.in-Other.ensures.value)

pub ranked-returns-in-Err-clause-err : goal.ranked-returns-in-Err-clause-err
ranked-returns-in-Err-clause-err t c =
    fails_first c.args.depth c.args.rank c.args.tokens.now c.args.at c.in-Err.fault (omega arith) c.in-Err.ensures.err

pub unary-returns-in-Some-negated_at-clause-ok : goal.unary-returns-in-Some-negated_at-clause-ok
unary-returns-in-Some-negated_at-clause-ok t c =
    negated_read c.args.depth c.args.tokens.now c.args.at c.in-Some.op c.in-Some-negated_at.word c.offset.result c.requires.depth (sym c.in-Some.ensures.value) (sym c.in-Some-negated_at.ensures) c.offset.ensures
