use Rattle.std.proofs.Common.{◌≡◌, take}
use Rattle.std.specs.List.{flat_map}
use Rattle.banzai_config.specs.Named.{port_reads}
use Rattle.container_plan.specs.Marks.{marked}
use Rattle.container_plan.proofs.marks.mark_ports.Given as goal

abbrev pub invariant-loop-port : goal.invariant-loop-port
invariant-loop-port l = l.marks ≡ marked l.stage (flat_map port_reads (take l.port-index l.ports)) l.fn.marks
