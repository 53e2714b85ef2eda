use Rattle.std.proofs.Common.{◌≡◌, ◌+◌, ◌++◌, nat_eq, take}
use Rattle.std.specs.List.{filter, flat_map, range_with_len}
use Rattle.codelets.specs.Cut.{at_level, level}
use Rattle.codelets.specs.ByRows.{cut_by}
use Rattle.codelets.proofs.leveling.ordered.Given as goal

abbrev pub invariant-loop-l : goal.invariant-loop-l
invariant-loop-l l = l.order ≡ flat_map (at_level (cut_by l.flat l.graph)) (range_with_len 1 l.l)

abbrev pub invariant-loop-k : goal.invariant-loop-k
invariant-loop-k l = l.order ≡ flat_map (at_level (cut_by l.flat l.graph)) (range_with_len 1 l.l) ++ filter (λ c. nat_eq (level (cut_by l.flat l.graph) c) (l.l + 1)) (take l.k l.pieces)
