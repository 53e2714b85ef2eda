use Rattle.std.proofs.Common.{◌≡◌, take, true}
use Rattle.dom_words.specs.State.{start_with_words}
use Rattle.branch_removal.proofs.copy.copy_arrays.Given as goal

abbrev pub invariant-loop-array : goal.invariant-loop-array
invariant-loop-array l = record {
  same : l.all ≡ take l.array-index l.arrays;
  words : start_with_words l.all ≡ true;
}
