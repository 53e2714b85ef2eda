use Rattle.std.proofs.Common.{◌∙◌, refl}
use Rattle.state_flanks.proofs.Arms.{chain_mentions, choice_mentions, operands_more, parts_more}
use Rattle.state_flanks.proofs.Marks.{both_marks, both_reads}
use Rattle.state_flanks.proofs.reads.+reads.Goals as goal

pub put_args-loop-part-preserved : goal.put_args-loop-part-preserved
put_args-loop-part-preserved t c =
    let parts = parts_more c.args.parts.now c.loop-part.part-index c.part-item.result _ c.loop-part-test.true c.part-item.is in
    record {
      items = both_reads _ _ _ _ _ _ _ _ parts c.in_ok-put_reads.ensures.items c.in_ok-put_reads.ensures.mentioned refl ∙ c.loop-part.invariant.items;
      mentioned = both_marks _ _ _ _ _ _ parts c.in_ok-put_reads.ensures.mentioned refl ∙ c.loop-part.invariant.mentioned;
    }

pub put_operands-loop-operand-preserved : goal.put_operands-loop-operand-preserved
put_operands-loop-operand-preserved t c =
    let parts = operands_more c.args.operands.now c.loop-operand.operand-index c.loop-operand-item.result _ c.loop-operand-test.true c.loop-operand-item.is in
    record {
      items = both_reads _ _ _ _ _ _ _ _ parts c.in_ok-put_reads.ensures.items c.in_ok-put_reads.ensures.mentioned refl ∙ c.loop-operand.invariant.items;
      mentioned = both_marks _ _ _ _ _ _ parts c.in_ok-put_reads.ensures.mentioned refl ∙ c.loop-operand.invariant.mentioned;
    }

pub put_reads-returns-in_ok-put_operands-in-Chain-clause-items : goal.put_reads-returns-in_ok-put_operands-in-Chain-clause-items
put_reads-returns-in_ok-put_operands-in-Chain-clause-items t c =
    let parts = chain_mentions _ _ _ _ _ c.in-Chain.is c.deref-in-Chain.ensures c.as_slice-in-Chain.ensures in
    both_reads _ _ _ _ _ _ _ _ parts c.in_ok-put_reads-in-Chain.ensures.items c.in_ok-put_reads-in-Chain.ensures.mentioned c.in_ok-put_operands-in-Chain.ensures.items

pub put_reads-returns-in_ok-put_operands-in-Chain-clause-mentioned : goal.put_reads-returns-in_ok-put_operands-in-Chain-clause-mentioned
put_reads-returns-in_ok-put_operands-in-Chain-clause-mentioned t c =
    let parts = chain_mentions _ _ _ _ _ c.in-Chain.is c.deref-in-Chain.ensures c.as_slice-in-Chain.ensures in
    both_marks _ _ _ _ _ _ parts c.in_ok-put_reads-in-Chain.ensures.mentioned c.in_ok-put_operands-in-Chain.ensures.mentioned

pub put_reads-returns-in_ok-put_reads-in-Cond-3-clause-items : goal.put_reads-returns-in_ok-put_reads-in-Cond-3-clause-items
put_reads-returns-in_ok-put_reads-in-Cond-3-clause-items t c =
    let parts = choice_mentions _ _ _ _ _ _ _ c.in-Cond.is c.deref-in-Cond.ensures c.deref-in-Cond-2.ensures c.deref-in-Cond-3.ensures in
    let sides = both_reads _ _ _ _ _ _ _ _ parts.1 c.in_ok-put_reads-in-Cond-2.ensures.items c.in_ok-put_reads-in-Cond-2.ensures.mentioned c.in_ok-put_reads-in-Cond-3.ensures.items in
    both_reads _ _ _ _ _ _ _ _ parts.0 c.in_ok-put_reads-in-Cond.ensures.items c.in_ok-put_reads-in-Cond.ensures.mentioned sides

pub put_reads-returns-in_ok-put_reads-in-Cond-3-clause-mentioned : goal.put_reads-returns-in_ok-put_reads-in-Cond-3-clause-mentioned
put_reads-returns-in_ok-put_reads-in-Cond-3-clause-mentioned t c =
    let parts = choice_mentions _ _ _ _ _ _ _ c.in-Cond.is c.deref-in-Cond.ensures c.deref-in-Cond-2.ensures c.deref-in-Cond-3.ensures in
    let sides = both_marks _ _ _ _ _ _ parts.1 c.in_ok-put_reads-in-Cond-2.ensures.mentioned c.in_ok-put_reads-in-Cond-3.ensures.mentioned in
    both_marks _ _ _ _ _ _ parts.0 c.in_ok-put_reads-in-Cond.ensures.mentioned sides
