use Rattle.std.proofs.Common.{◌≡◌}
use Rattle.std.specs.List.{list_any, range_with_len}
use Rattle.codelets.specs.ByRows.{cut_by}
use Rattle.codelets.specs.Held.{is_this, written}
use Rattle.codelets.proofs.held.written_before.Given as goal

abbrev pub invariant-loop-k : goal.invariant-loop-k
invariant-loop-k l = l.found ≡ list_any (λ k. is_this l.value (written (cut_by l.flat l.graph) l.c k)) (range_with_len 0 l.k)
