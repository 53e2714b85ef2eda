use Rattle.std.proofs.Common.{◌≡◌, map, take}
use Rattle.codelets.specs.Answer.{codelet_of}
use Rattle.codelets.specs.ByRows.{cut_by}
use Rattle.codelets.proofs.listing.codelet_list.Given as goal

abbrev pub invariant-loop-k : goal.invariant-loop-k
invariant-loop-k l = l.list ≡ map (codelet_of (cut_by l.flat l.graph)) (take l.k l.order)
