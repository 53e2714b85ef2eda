use Rattle.std.proofs.Common.{◌≡◌, map, take}
use Rattle.atom_match.specs.Classes.{container_of}
use Rattle.atom_match.specs.Atoms.{port_of}
use Rattle.atom_match.proofs.operator.ports.Given as goal

abbrev pub invariant-loop-operand : goal.invariant-loop-operand
invariant-loop-operand l = l.ports ≡ map (port_of (container_of l.codelets.values)) (take l.operand-index l.operands)
