use Rattle.std.proofs.Common.{arith}
use Rattle.three_address.proofs.Chains.{op_step}
use Rattle.three_address.proofs.expressions.+flatten.Goals as goal

pub put_ops-loop-k-preserved : goal.put_ops-loop-k-preserved
put_ops-loop-k-preserved t c = record {
  rest =
      let within = c.loop-k-test.true in
      op_step c.args.fields c.args.values.now c.loop-k.lines c.put_part.new.lines c.put.new.lines c.loop-k.a c.in_ok-b.b c.in_ok-a.a c.loop-k.k c.args.ops.now c.op_at.result.now _ (omega arith) c.op_at.ensures.same c.loop-k.invariant.rest c.in_ok-b.ensures.lines c.in_ok-b.ensures.operand c.in_ok-a.ensures.lines c.in_ok-a.ensures.operand;
  few =
      let nodes = c.op_at.ensures.nodes in
      let few = c.loop-k.invariant.few in
      let first = c.in_ok-b.ensures.few in
      let then_one = c.in_ok-a.ensures.few in
      omega arith;
  less =
      let nodes = c.op_at.ensures.nodes in
      let less = c.loop-k.invariant.less in
      omega arith;
}

pub put_ops-put_part-requires : goal.put_ops-put_part-requires
put_ops-put_part-requires t c =
    let nodes = c.op_at.ensures.nodes in
    let few = c.loop-k.invariant.few in
    let less = c.loop-k.invariant.less in
    let all = c.requires in
    let measure = c.decreases in
    (omega arith, omega arith)
