use Rattle.std.proofs.Common.{◌≡◌, length, map, take}
use Rattle.atom_traits.specs.Form.{port_word}
use Rattle.atom_traits.proofs.operation.hash_word.Given as goal

abbrev pub invariant-loop-k : goal.invariant-loop-k
invariant-loop-k g l = record {
  length : length l.values ≡ 4;
  words : take l.k l.values ≡ map (λ a. port_word a l.words) (take l.k l.args);
}
