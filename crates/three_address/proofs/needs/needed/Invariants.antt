use Rattle.std.proofs.Common.{◌≡◌, ◌≤◌, false, drop, length}
use Rattle.std.specs.Prelude.{replicate}
use Rattle.three_address.specs.inner.Marking.{all_marked}
use Rattle.three_address.proofs.Marks.{swept}
use Rattle.three_address.proofs.needs.needed.Given as goal

abbrev pub invariant-loop-k : goal.invariant-loop-k
invariant-loop-k l = record {
  marks : l.marks.items ≡ swept l.fields l.stored.items l.k (drop l.k l.lines) (all_marked l.fields (replicate (length l.lines) false) l.outputs);
  size : length l.marks.items ≡ length l.lines;
  within : l.k ≤ length l.lines;
}

abbrev pub decreases-loop-k : goal.decreases-loop-k
decreases-loop-k l = l.k
