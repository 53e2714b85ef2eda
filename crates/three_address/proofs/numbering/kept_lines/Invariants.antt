use Rattle.std.proofs.Common.{◌≡◌, ◌++◌, drop, map, true}
use Rattle.dom_flat.specs.Kept.{lines_have_words}
use Rattle.three_address.specs.inner.Numbering.{number_in}
use Rattle.three_address.specs.Needs.{kept, line_renumbered}
use Rattle.three_address.proofs.numbering.kept_lines.Given as goal

abbrev pub invariant-loop-k : goal.invariant-loop-k
invariant-loop-k l = record {
  same : l.all ++ map (line_renumbered (number_in l.fields l.numbers)) (kept (drop l.k l.marks) (drop l.k l.lines)) ≡ map (line_renumbered (number_in l.fields l.numbers)) (kept l.marks l.lines);
  words : lines_have_words l.all ≡ true;
}
