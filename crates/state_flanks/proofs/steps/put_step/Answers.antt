use Rattle.dom_ast.specs.Straight.{step_form}
use Rattle.state_flanks.specs.inner.Tables.{reads}
use Rattle.state_flanks.specs.WithFlanks.{step_mentions}
use Rattle.state_flanks.proofs.Arms.{step_parts}
use Rattle.state_flanks.proofs.Marks.{both_marks, both_reads, with_step}
use Rattle.state_flanks.proofs.steps.put_step.Goals as goal

pub returns-clause-items : goal.returns-clause-items
returns-clause-items c =
    let flanks = reads c.args.mentioned.now (step_mentions (step_form c.args.step)) in
    with_step _ _ _ flanks c.args.step (both_reads _ _ _ _ _ _ _ _ (step_parts c.args.step) c.in_ok-put_reads.ensures.items c.in_ok-put_reads.ensures.mentioned c.in_ok-put_target.ensures.items) c.in_ok-push.ensures.ok

pub returns-clause-mentioned : goal.returns-clause-mentioned
returns-clause-mentioned c =
    both_marks _ _ _ _ _ _ (step_parts c.args.step) c.in_ok-put_reads.ensures.mentioned c.in_ok-put_target.ensures.mentioned
