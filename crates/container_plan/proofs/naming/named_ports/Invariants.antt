use Rattle.std.proofs.Common.{◌≡◌, map, take}
use Rattle.std.specs.Prelude.{slice_index}
use Rattle.atom_traits.specs.Renamed.{port_renamed}
use Rattle.container_plan.proofs.naming.named_ports.Given as goal

abbrev pub invariant-loop-port : goal.invariant-loop-port
invariant-loop-port l = l.new ≡ map (port_renamed (slice_index l.names)) (take l.port-index l.ports)
