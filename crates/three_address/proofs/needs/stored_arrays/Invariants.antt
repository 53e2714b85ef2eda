use Rattle.std.proofs.Common.{◌≡◌, false, length, take}
use Rattle.std.specs.Prelude.{fold, replicate}
use Rattle.three_address.specs.inner.Marking.{store_marked}
use Rattle.three_address.proofs.needs.stored_arrays.Given as goal

abbrev pub invariant-loop-line : goal.invariant-loop-line
invariant-loop-line l = record {
  stored : l.stored.items ≡ fold store_marked (replicate l.arrays false) (take l.line-index l.lines);
  size : length l.stored.items ≡ l.arrays;
}
