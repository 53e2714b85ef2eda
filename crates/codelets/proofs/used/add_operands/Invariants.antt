use Rattle.std.proofs.Common.{take}
use Rattle.codelets.specs.Used.{Added}
use Rattle.dom_flat.specs.Lines.{uses}
use Rattle.codelets.proofs.used.add_operands.Given as goal

abbrev pub invariant-loop-operand : goal.invariant-loop-operand
invariant-loop-operand l = Added l.fields (λ v. uses v (take l.operand-index l.operands)) l.fn.numbers l.numbers
