use Rattle.std.proofs.Common.{◌∙◌, arith, ap, ◌==◌}
use Rattle.stage_plan.specs.Schedule.{first_from, atoms_at}
use Rattle.stage_plan.specs.Faults.{is_full}
use Rattle.stage_plan.proofs.Firsts.{some_within}
use Rattle.stage_plan.proofs.Boards.{full_in}
use Rattle.stage_plan.proofs.board.Board.find_full.Goals as goal

value : goal.returns-clause-value
value c = c.full_at.ensures ∙ full_in c.args.self.now c.args.kind c.width_of.result c.counts.result.now c.requires c.counts.ensures ∙ ap (λ w. first_from (λ s. atoms_at c.args.self.now.placed.items c.args.kind s == w) 1 c.args.self.now.depth) c.width_of.ensures

pub returns-clause-value : goal.returns-clause-value
returns-clause-value c = value c

pub returns-clause-within : goal.returns-clause-within
returns-clause-within c = some_within (is_full c.args.sl c.args.sf c.args.self.now.placed.items c.args.kind) 1 c.args.self.now.depth c.args.self.now.depth c.full_at.result (value c) (omega arith)
