use Rattle.branch_removal.proofs.Moves.{put_if}
use Rattle.branch_removal.proofs.steps.+steps.Goals as goal

pub put_act-returns-in_ok-free-in-If-2-clause-steps : goal.put_act-returns-in_ok-free-in-If-2-clause-steps
put_act-returns-in_ok-free-in-If-2-clause-steps t c =
    put_if c.args.act.now c.in-If.test c.in-If.yes c.in-If.no _ _ c.args.branches.now.items _ c.args.next _ c.args.steps.now _ _ _ c.in-If.is c.as_slice-in-If.ensures c.as_slice-in-If-2.ensures c.in_ok-put_condition-in-If.ensures c.in_ok-free-in-If.ensures.steps c.in_ok-free-in-If.ensures.next c.in_ok-free-in-If.ensures.branches c.in_ok-free-in-If-2.ensures.steps
