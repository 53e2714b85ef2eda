use Rattle.std.proofs.Common.{◌∙◌, ◌+◌, ap, set, get_or}
use Rattle.stage_plan.specs.Schedule.{other_kind}
use Rattle.stage_plan.proofs.Boards.{counted_more}
use Rattle.stage_plan.proofs.board.Board.put.Goals as goal

pub returns-clause-counted : goal.returns-clause-counted
returns-clause-counted c =
    counted_more c.args.self.now c.raise.new.self c.args.kind c.args.stage
    (c.raise.ensures.placed ∙ c.in_ok-add.ensures.ok)
    (c.raise.ensures.count ∙ ap (λ l. set l c.args.stage (get_or l c.args.stage 0 + 1)) (c.add.ensures.counts c.args.kind))
    (c.raise.ensures.other ∙ c.add.ensures.counts (other_kind c.args.kind))
    (c.raise.ensures.depth ∙ c.add.ensures.depth) c.requires.counted c.requires.stage
