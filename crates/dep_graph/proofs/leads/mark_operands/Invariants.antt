use Rattle.std.proofs.Common.{◌+◌, take}
use Rattle.dep_graph.specs.First.{IsMarked}
use Rattle.dom_flat.specs.Lines.{uses}
use Rattle.dep_graph.proofs.leads.mark_operands.Given as goal

abbrev pub invariant-loop-operand : goal.invariant-loop-operand
invariant-loop-operand l = IsMarked l.user (λ a. uses (l.fields + a) (take l.operand-index l.operands)) l.fn.rows l.rows
