use Rattle.std.proofs.Common.{◌≡◌, map, take}
use Rattle.std.specs.Prelude.{slice_index}
use Rattle.container_plan.specs.Renamed.{op_renamed}
use Rattle.container_plan.proofs.naming.named_ops.Given as goal

abbrev pub invariant-loop-atom : goal.invariant-loop-atom
invariant-loop-atom l = l.new ≡ map (op_renamed (slice_index l.names)) (take l.atom-index l.atoms)
