use Rattle.std.proofs.Common.{◌≡◌}
use Rattle.std.specs.List.{filter_map, range_with_len}
use Rattle.codelets.specs.ByRows.{cut_by}
use Rattle.codelets.specs.Held.{held_at}
use Rattle.codelets.proofs.held.held_list.Given as goal

abbrev pub invariant-loop-k : goal.invariant-loop-k
invariant-loop-k l = l.list ≡ filter_map (held_at (cut_by l.flat l.graph) l.c) (range_with_len 0 l.k)
