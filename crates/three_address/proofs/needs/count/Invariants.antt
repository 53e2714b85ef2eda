use Rattle.std.proofs.Common.{◌≡◌, ◌+◌, ◌≤◌, drop}
use Rattle.three_address.specs.Needs.{count}
use Rattle.three_address.proofs.needs.count.Given as goal

abbrev pub invariant-loop-mark : goal.invariant-loop-mark
invariant-loop-mark l = record {
  count : l.count + count (drop l.mark-index l.marks) ≡ count l.marks;
  few : l.count ≤ l.mark-index;
}
