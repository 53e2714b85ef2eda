use Rattle.std.proofs.Common.{◌≡◌, ◌++◌, map, take}
use Rattle.std.specs.List.{flat_map}
use Rattle.banzai_config.specs.Named.{port_reads, slot_array, slot_reads, slot_targets}
use Rattle.banzai_config.proofs.named.add_ports.Given as goal

abbrev pub invariant-loop-port : goal.invariant-loop-port
invariant-loop-port l = l.reads.items ≡ l.fn.reads.items ++ flat_map port_reads (take l.port-index l.ports)
