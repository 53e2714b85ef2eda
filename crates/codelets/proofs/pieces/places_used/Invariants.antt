use Rattle.std.proofs.Common.{◌≡◌, map, take}
use Rattle.codelets.specs.Cut.{used_in}
use Rattle.codelets.specs.ByRows.{cut_by}
use Rattle.codelets.proofs.pieces.places_used.Given as goal

abbrev pub invariant-loop-k : goal.invariant-loop-k
invariant-loop-k l = l.lists ≡ map (used_in (cut_by l.flat l.graph) l.pieces) (take l.k l.pieces)
