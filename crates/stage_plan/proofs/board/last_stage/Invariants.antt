use Rattle.std.proofs.Common.{◌≡◌, map, take}
use Rattle.codelets.specs.Lists.{max_of}
use Rattle.stage_plan.specs.Schedule.{stage_at}
use Rattle.stage_plan.proofs.board.last_stage.Given as goal

abbrev pub invariant-loop-u : goal.invariant-loop-u
invariant-loop-u l = l.last ≡ max_of (map (stage_at l.placed) (take l.u-index l.uses))
