use Rattle.std.proofs.Common.{◌∙◌, ◌+◌, ◌-◌, arith, nat_lt, ap}
use Rattle.stage_plan.specs.Schedule.{has_room, first_from, atoms_at}
use Rattle.stage_plan.proofs.Firsts.{some_within}
use Rattle.stage_plan.proofs.Boards.{found_in, some_room}
use Rattle.stage_plan.proofs.board.Board.find.Goals as goal

value : goal.returns-clause-value
value c = c.free_stage.ensures ∙ found_in c.args.self.now c.args.kind c.width_of.result c.args.last c.counts.result.now c.requires.counted c.counts.ensures c.requires.last ∙ ap (λ w. first_from (λ s. nat_lt (atoms_at c.args.self.now.placed.items c.args.kind s) w) (c.args.last + 1) (c.args.self.now.depth - c.args.last)) c.width_of.ensures

pub returns-clause-value : goal.returns-clause-value
returns-clause-value c = value c

pub returns-clause-within : goal.returns-clause-within
returns-clause-within c = some_within (has_room c.args.sl c.args.sf c.args.self.now.placed.items c.args.kind) (c.args.last + 1) (c.args.self.now.depth - c.args.last) c.args.self.now.depth c.free_stage.result (value c) (omega arith)

pub returns-clause-room : goal.returns-clause-room
returns-clause-room c = some_room c.args.sl c.args.sf c.args.self.now.placed.items c.args.kind (c.args.last + 1) (c.args.self.now.depth - c.args.last) c.free_stage.result (value c)
