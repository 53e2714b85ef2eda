use Rattle.std.proofs.Common.{◌≡◌, map, take, true}
use Rattle.dom_flat.specs.Kept.{have_words}
use Rattle.three_address.specs.inner.Numbering.{number_in}
use Rattle.three_address.specs.Needs.{renumbered}
use Rattle.three_address.proofs.numbering.all_renumbered.Given as goal

abbrev pub invariant-loop-operand : goal.invariant-loop-operand
invariant-loop-operand l = record {
  same : l.all ≡ map (renumbered (number_in l.fields l.numbers)) (take l.operand-index l.operands);
  words : have_words l.all ≡ true;
}
