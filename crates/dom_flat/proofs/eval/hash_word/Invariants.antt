use Rattle.std.proofs.Common.{◌≡◌, length, map, take, slice_index}
use Rattle.dom_flat.specs.Meaning.{operand_word}
use Rattle.dom_flat.proofs.eval.hash_word.Given as goal

abbrev pub invariant-loop-k : goal.invariant-loop-k
invariant-loop-k g l = record {
  length : length l.words ≡ 4;
  words : take l.k l.words ≡ map (λ a. operand_word a (slice_index l.values)) (take l.k l.args);
}
