use Rattle.std.proofs.Common.{◌≡◌, ◌++◌, map, take}
use Rattle.std.specs.List.{flat_map}
use Rattle.banzai_config.specs.Named.{port_reads, slot_array, slot_reads, slot_targets}
use Rattle.banzai_config.proofs.named.add_slot_targets.Given as goal

abbrev pub invariant-loop-slot : goal.invariant-loop-slot
invariant-loop-slot l = l.targets.items ≡ l.fn.targets.items ++ flat_map slot_targets (take l.slot-index l.slots)
