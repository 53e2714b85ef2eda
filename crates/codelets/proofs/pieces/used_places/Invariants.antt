use Rattle.std.proofs.Common.{◌≡◌, ◌≤◌, ◌-◌, [], length}
use Rattle.std.specs.Prelude.{slice_index_or}
use Rattle.std.specs.List.{filter, range_with_len}
use Rattle.codelets.specs.Cut.{uses_codelet}
use Rattle.codelets.specs.ByRows.{cut_by}
use Rattle.codelets.proofs.pieces.used_places.Given as goal

abbrev pub invariant-loop-place : goal.invariant-loop-place
invariant-loop-place l = record {
  within : l.place ≤ length l.list;
  places : l.places ≡ filter (λ k. uses_codelet (cut_by l.flat l.graph) l.c (slice_index_or l.list k [])) (range_with_len 0 l.place);
}

abbrev pub decreases-loop-place : goal.decreases-loop-place
decreases-loop-place l = length l.list - l.place
