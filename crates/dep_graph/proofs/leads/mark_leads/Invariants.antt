use Rattle.std.proofs.Common.{length}
use Rattle.dep_graph.specs.First.{IsFirst}
use Rattle.dep_graph.proofs.leads.mark_leads.Given as goal

abbrev pub invariant-loop-b : goal.invariant-loop-b
invariant-loop-b l = IsFirst (length l.flat.fields) l.flat.lines l.b l.rows
