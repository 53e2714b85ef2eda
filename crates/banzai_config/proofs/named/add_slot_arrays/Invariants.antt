use Rattle.std.proofs.Common.{◌≡◌, ◌++◌, map, take}
use Rattle.std.specs.List.{flat_map}
use Rattle.banzai_config.specs.Named.{port_reads, slot_array, slot_reads, slot_targets}
use Rattle.banzai_config.proofs.named.add_slot_arrays.Given as goal

abbrev pub invariant-loop-slot : goal.invariant-loop-slot
invariant-loop-slot l = l.arrays.items ≡ l.fn.arrays.items ++ map slot_array (take l.slot-index l.slots)
