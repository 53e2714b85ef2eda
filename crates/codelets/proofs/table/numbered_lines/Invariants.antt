use Rattle.std.proofs.Common.{◌≡◌, map}
use Rattle.std.specs.List.{range_with_len}
use Rattle.codelets.specs.Cut.{line_of}
use Rattle.codelets.specs.ByRows.{cut_by}
use Rattle.codelets.proofs.table.numbered_lines.Given as goal

abbrev pub invariant-loop-number : goal.invariant-loop-number
invariant-loop-number l = l.table ≡ map (line_of (cut_by l.flat l.graph)) (range_with_len 0 l.number)
