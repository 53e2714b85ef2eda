use Rattle.std.proofs.Common.{sym, ap, ◌∙◌, arith}
use Rattle.std.specs.Option.{option_map}
use Rattle.config_text.specs.DraftViews.{draft_form, named_form}
use Rattle.config_text.proofs.TextLines.{line_step, line_stop, bad_rest, bad_stop, good_text}
use Rattle.config_text.proofs.reader.read_named.Goals as goal

pub returns-then-not-stands-clause-err : goal.returns-then-not-stands-clause-err
returns-then-not-stands-clause-err c =
    line_stop c.args.text.now c.lines.at c.lines.number (draft_form c.lines.draft) (draft_form c.take_line.new.draft) c.line_bytes.result.now c.in-Ok-take_line.stands c.lines.invariant
    (let z = c.line_size.ensures.value in let t = c.lines-test.true in omega arith) c.line_bytes.ensures c.in-Ok-take_line.ensures c.if-not-stands.true

pub lines-preserved : goal.lines-preserved
lines-preserved c =
    line_step c.args.text.now c.lines.at c.line_size-size.result c.lines.number (draft_form c.lines.draft) (draft_form c.take_line.new.draft) c.line_bytes.result.now c.in-Ok-take_line.stands c.lines.invariant
    (let z = c.line_size.ensures.value in let t = c.lines-test.true in omega arith) c.line_size-size.ensures.value c.line_bytes.ensures c.in-Ok-take_line.ensures c.if-not-stands.false

pub returns-then-at-text-clause-err : goal.returns-then-at-text-clause-err
returns-then-at-text-clause-err c =
    bad_rest c.args.text.now c.lines.at c.lines.number (draft_form c.lines.draft) c.lines.invariant
    (let z = c.line_size.ensures.value in let t = c.lines-test.false in omega arith) c.if-at-text.true

pub returns-in-Some-clause-ok : goal.returns-in-Some-clause-ok
returns-in-Some-clause-ok c =
    good_text c.args.text.now c.lines.at c.lines.number (draft_form c.lines.draft) (named_form c.in-Some.named) c.lines.invariant c.if-at-text.false
    (sym c.into_named.ensures ∙ ap (option_map named_form) c.in-Some.is)

pub returns-in-None-clause-err : goal.returns-in-None-clause-err
returns-in-None-clause-err c =
    bad_stop c.args.text.now c.lines.at c.lines.number (draft_form c.lines.draft) c.lines.invariant
    (let z = c.line_size.ensures.value in let t = c.lines-test.false in omega arith)
    (sym c.into_named.ensures ∙ ap (option_map named_form) c.in-None.is)
