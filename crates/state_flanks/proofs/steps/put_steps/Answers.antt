use Rattle.state_flanks.proofs.Marks.{next_items, next_marks, next_notes}
use Rattle.state_flanks.proofs.steps.put_steps.Goals as goal

pub loop-step-preserved : goal.loop-step-preserved
loop-step-preserved c = record {
  items = next_items c.args.items.now c.loop-step.items _ c.args.mentioned.now c.loop-step.mentioned c.loop-step.yielded c.in-Some.step c.loop-step.invariant.items c.loop-step.invariant.mentioned c.in_ok-put_step.ensures.items;
  mentioned = next_marks c.args.mentioned.now c.loop-step.mentioned _ c.loop-step.yielded c.in-Some.step c.loop-step.invariant.mentioned c.in_ok-put_step.ensures.mentioned;
  written = next_notes c.args.written.now c.loop-step.written _ c.loop-step.yielded c.in-Some.step c.loop-step.invariant.written c.note.ensures;
}
