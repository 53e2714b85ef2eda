use Rattle.std.proofs.Common.{◌≡◌, take}
use Rattle.std.specs.List.{flat_map}
use Rattle.container_plan.specs.Marks.{marked, op_targets}
use Rattle.container_plan.proofs.marks.mark_op_targets.Given as goal

abbrev pub invariant-loop-atom : goal.invariant-loop-atom
invariant-loop-atom l = l.marks ≡ marked l.stage (flat_map op_targets (take l.atom-index l.atoms)) l.fn.marks
