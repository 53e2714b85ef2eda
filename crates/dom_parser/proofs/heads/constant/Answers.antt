use Rattle.std.proofs.Common.{sym, ◌∙◌}
use Rattle.dom_parser.proofs.HeadParts.{reads_plain, no_constant, no_number_after, reads_negative}
use Rattle.dom_parser.proofs.heads.constant.Goals as goal

pub returns-in-Some-clause-ok : goal.returns-in-Some-clause-ok
returns-in-Some-clause-ok c =
    reads_plain c.args.tokens.now c.args.at c.in-Some.word (sym c.in-Some.ensures.value)

pub returns-then-not-is_minus-clause-err : goal.returns-then-not-is_minus-clause-err
returns-then-not-is_minus-clause-err c =
    no_constant c.args.tokens.now c.args.at (sym c.number_at.ensures.value ∙ c.in_default.is) (sym c.if-not-is_minus.ensures.value)

pub returns-in-Some-number_at-clause-ok : goal.returns-in-Some-number_at-clause-ok
returns-in-Some-number_at-clause-ok c =
    rw c.negated.ensures (reads_negative c.args.tokens.now c.args.at c.in-Some-number_at.word (sym c.number_at.ensures.value ∙ c.in_default.is) (sym c.if-not-is_minus.ensures.value) (sym c.in-Some-number_at.ensures.value))

pub returns-in-None-clause-err : goal.returns-in-None-clause-err
returns-in-None-clause-err c =
    no_number_after c.args.tokens.now c.args.at (sym c.number_at.ensures.value ∙ c.in_default.is) (sym c.if-not-is_minus.ensures.value) (sym c.in-None.ensures.value)
