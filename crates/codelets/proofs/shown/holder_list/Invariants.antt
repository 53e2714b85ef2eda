use Rattle.std.proofs.Common.{◌≡◌, ◌++◌, [], length, take}
use Rattle.std.specs.List.{flat_map, range_with_len}
use Rattle.codelets.specs.ByRows.{cut_by}
use Rattle.codelets.specs.Held.{exports}
use Rattle.codelets.specs.Lists.{once}
use Rattle.codelets.proofs.shown.holder_list.Given as goal

abbrev pub invariant-loop-v : goal.invariant-loop-v
invariant-loop-v l = l.values ≡ once [] (range_with_len 0 l.v)

abbrev pub invariant-loop-k : goal.invariant-loop-k
invariant-loop-k l = l.values ≡ once [] (range_with_len 0 (length l.flat.fields) ++ flat_map (exports (cut_by l.flat l.graph)) (take l.k l.order))
