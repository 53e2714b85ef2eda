use Rattle.std.proofs.Common.{◌≤◌, ◌≡◌, arith, rules}
use Rattle.stage_plan.specs.Schedule.{stage_at, last_used}
use Rattle.stage_plan.proofs.Greatest.{greatest_bound}
use Rattle.stage_plan.proofs.board.Board.last_used.Goals as goal

pub returns-clause-within : goal.returns-clause-within
returns-clause-within c =
    let b : last_used c.args.self.now.placed.items c.args.c.now ≤ c.args.self.now.depth = greatest_bound (stage_at c.args.self.now.placed.items) c.args.self.now.depth c.requires.counted.within c.args.c.now.uses in
    let e : c.last_stage.result ≡ last_used c.args.self.now.placed.items c.args.c.now = search rules in
    omega arith
