use Rattle.std.proofs.Common.{◌≡◌, map, take}
use Rattle.std.specs.Prelude.{slice_index}
use Rattle.container_plan.specs.Renamed.{slot_renamed}
use Rattle.container_plan.proofs.naming.named_slots.Given as goal

abbrev pub invariant-loop-slot : goal.invariant-loop-slot
invariant-loop-slot l = l.new ≡ map (slot_renamed (slice_index l.names)) (take l.slot-index l.slots)
