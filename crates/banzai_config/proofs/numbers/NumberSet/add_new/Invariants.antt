use Rattle.std.proofs.Common.{◌≡◌, ◌++◌, drop, take}
use Rattle.banzai_config.specs.Legal.{are_new}
use Rattle.banzai_config.proofs.numbers.NumberSet.add_new.Given as goal

abbrev pub invariant-loop-number : goal.invariant-loop-number
invariant-loop-number l = record {
  size : l.self.size ≡ l.fn.self.size;
  added : l.self.numbers ≡ l.fn.self.numbers ++ take l.number-index l.numbers;
  new : are_new l.fn.self.numbers l.numbers ≡ are_new l.self.numbers (drop l.number-index l.numbers);
}
