use Rattle.std.proofs.Common.{◌≡◌, map, take}
use Rattle.dom_ast.specs.Resolved.{form}
use Rattle.ssa_names.specs.Naming.{operand_form}
use Rattle.ssa_names.proofs.naming.parts.Given as goal

abbrev pub invariant-loop-operand : goal.invariant-loop-operand
invariant-loop-operand l = map form l.all ≡ map operand_form (take l.operand-index l.operands)
