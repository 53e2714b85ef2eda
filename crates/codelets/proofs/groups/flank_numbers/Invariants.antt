use Rattle.std.proofs.Common.{◌≡◌}
use Rattle.std.specs.List.{filter, range_with_len}
use Rattle.dom_flat.specs.Lines.{is_flank}
use Rattle.codelets.specs.ByRows.{linked_by}
use Rattle.codelets.specs.Linked.{is_so}
use Rattle.codelets.proofs.groups.flank_numbers.Given as goal

abbrev pub invariant-loop-b : goal.invariant-loop-b
invariant-loop-b l = l.flanks ≡ filter (is_so (linked_by l.flat l.graph) is_flank) (range_with_len 0 l.b)
