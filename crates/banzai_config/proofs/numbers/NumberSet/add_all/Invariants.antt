use Rattle.std.proofs.Common.{◌≡◌, ◌++◌, take}
use Rattle.banzai_config.proofs.numbers.NumberSet.add_all.Given as goal

abbrev pub invariant-loop-number : goal.invariant-loop-number
invariant-loop-number l = record {
  size : l.self.size ≡ l.fn.self.size;
  added : l.self.numbers ≡ l.fn.self.numbers ++ take l.number-index l.numbers;
}
