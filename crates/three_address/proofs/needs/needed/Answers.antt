use Rattle.std.proofs.Common.{◌-◌, length, ap, ◌∙◌, arith}
use Rattle.three_address.proofs.Marks.{array_at, needs_swept, operands_at, table_length}
use Rattle.three_address.proofs.needs.needed.Goals as goal

pub sweep-requires-clause-array : goal.sweep-requires-clause-array
sweep-requires-clause-array c =
    let some = c.loop-k-test.true in
    let within = c.loop-k.invariant.within in
    array_at c.args.arrays _ c.args.lines.now (c.loop-k.k - 1) _ (table_length c.args.arrays c.args.lines.now _ (c.as_slice.ensures.value ∙ c.in_ok-stored.ensures)) (omega arith) c.index-lines-k.is c.requires.ranges

pub sweep-requires-clause-operands : goal.sweep-requires-clause-operands
sweep-requires-clause-operands c =
    let some = c.loop-k-test.true in
    let within = c.loop-k.invariant.within in
    operands_at c.args.fields _ c.args.lines.now (c.loop-k.k - 1) _ (ap length c.as_mut_slice-in-loop-k.ensures.value ∙ c.loop-k.invariant.size) (omega arith) c.index-lines-k.is c.requires.order

pub returns : goal.returns
returns c =
    needs_swept c.args.arrays c.args.fields c.loop-k.k c.args.lines.now c.args.outputs.now _ _ c.loop-k-test.false c.in_ok-stored.ensures c.loop-k.invariant.marks c.requires.ranges c.requires.order
