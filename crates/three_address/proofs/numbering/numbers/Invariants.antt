use Rattle.std.proofs.Common.{◌≡◌, ◌+◌, ◌≤◌, ◌++◌, drop}
use Rattle.three_address.specs.inner.Numbering.{numbers_from}
use Rattle.three_address.proofs.numbering.numbers.Given as goal

abbrev pub invariant-loop-mark : goal.invariant-loop-mark
invariant-loop-mark l = record {
  numbers : l.numbers.items ++ numbers_from l.next (drop l.mark-index l.marks) ≡ numbers_from l.fields l.marks;
  few : l.next ≤ l.fields + l.mark-index;
}
