use Rattle.std.proofs.Common.{◌≡◌, map, take}
use Rattle.codelets.specs.ByRows.{cut_by}
use Rattle.codelets.specs.ByRows.{seen_for}
use Rattle.codelets.proofs.operands.operands_for.Given as goal

abbrev pub invariant-loop-operand : goal.invariant-loop-operand
invariant-loop-operand l = l.seen ≡ map (seen_for (cut_by l.flat l.graph) l.user) (take l.operand-index l.operands)
