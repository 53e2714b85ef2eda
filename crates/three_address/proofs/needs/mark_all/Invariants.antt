use Rattle.std.proofs.Common.{◌≡◌, length, take}
use Rattle.three_address.specs.inner.Marking.{all_marked}
use Rattle.three_address.proofs.needs.mark_all.Given as goal

abbrev pub invariant-loop-operand : goal.invariant-loop-operand
invariant-loop-operand l = record {
  marks : l.marks ≡ all_marked l.fields l.fn.marks (take l.operand-index l.operands);
  size : length l.marks ≡ length l.fn.marks;
}
