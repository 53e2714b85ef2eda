use Rattle.std.proofs.Common.{◌&&◌, nat_lt}
use Rattle.dep_graph.specs.First.{IsMarked, leads_as_flank}
use Rattle.dep_graph.proofs.leads.mark_flanks.Given as goal

abbrev pub invariant-loop-a : goal.invariant-loop-a
invariant-loop-a l = IsMarked l.b (λ a. nat_lt a l.a && leads_as_flank l.flat.lines l.line a) l.fn.rows l.rows
