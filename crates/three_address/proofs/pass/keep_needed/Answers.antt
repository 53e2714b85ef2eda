use Rattle.std.proofs.Common.{sym, ap, ◌∙◌, arith}
use Rattle.three_address.specs.Needs.{count}
use Rattle.three_address.proofs.Passed.{marks_length, needed_count, numbered_few, order_below}
use Rattle.three_address.proofs.pass.keep_needed.Goals as goal

pub count-count-requires : goal.count-count-requires
count-count-requires c =
    let size = marks_length c.args.fields c.args.lines.now c.args.outputs.now _ (c.as_slice.ensures.value ∙ c.in-Ok.ensures) in
    let few = c.requires.few in
    omega arith

pub numbered-requires-clause-marks : goal.numbered-requires-clause-marks
numbered-requires-clause-marks c =
    marks_length c.args.fields c.args.lines.now c.args.outputs.now _ (c.as_slice-2.ensures.value ∙ c.in-Ok.ensures)

pub numbered-requires-clause-lines : goal.numbered-requires-clause-lines
numbered-requires-clause-lines c = order_below c.args.fields c.args.lines.now c.requires.order

pub returns-then-count-gt512-clause-refused : goal.returns-then-count-gt512-clause-refused
returns-then-count-gt512-clause-refused c =
    (c.count-count.ensures ∙ needed_count c.args.fields c.args.lines.now c.args.outputs.now _ (c.as_slice.ensures.value ∙ c.in-Ok.ensures), c.if-count-gt512.true)

pub returns-clause-few : goal.returns-clause-few
returns-clause-few c =
    numbered_few c.args.fields c.args.lines.now _ c.args.outputs.now c.as_slice-2.result.now c.count-count.result c.in-Ok-numbered.ensures.lines (c.as_slice-2.ensures.value ∙ c.in-Ok.ensures) (c.count-count.ensures ∙ ap count (c.as_slice.ensures.value ∙ sym c.as_slice-2.ensures.value)) c.if-count-gt512.false
