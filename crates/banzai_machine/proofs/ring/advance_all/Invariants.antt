use Rattle.std.proofs.Common.{◌≡◌, length, map, slice_index_or}
use Rattle.banzai_machine.specs.Ring.{ring}
use Rattle.banzai_machine.proofs.Skipped.{SoFar}
use Rattle.banzai_machine.proofs.ring.advance_all.Given as goal

-- the stages below the next busy one have acted
abbrev pub invariant-loop-j : goal.invariant-loop-j
invariant-loop-j g l =
    record {
      so_far : SoFar (g.H.HashUnits.meaning l.hash) l.config.stages (ring l.width l.position l.filled l.fn.words) l.fn.arrays
          (ring l.width l.position l.filled l.words) l.arrays l.touches.list (slice_index_or l.busy l.j (length l.config.stages));
      room : l.touches.room ≡ l.fn.touches.room;
      sizes : map length l.arrays ≡ map length l.fn.arrays;
      size : length l.words ≡ length l.fn.words;
    }
