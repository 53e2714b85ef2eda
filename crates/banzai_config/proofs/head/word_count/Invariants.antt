use Rattle.std.proofs.Common.{◌≡◌, ◌*◌, ◌≤◌, take}
use Rattle.dom_words.specs.State.{state_words}
use Rattle.banzai_config.proofs.head.word_count.Given as goal

abbrev pub invariant-loop-array : goal.invariant-loop-array
invariant-loop-array l = record {
  sum : l.count ≡ state_words (take l.array-index l.arrays);
  small : l.count ≤ 4294967295 * l.array-index;
}
