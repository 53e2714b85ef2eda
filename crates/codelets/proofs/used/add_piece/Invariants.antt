use Rattle.std.proofs.Common.{length, take}
use Rattle.std.specs.List.{list_any}
use Rattle.codelets.specs.ByRows.{cut_by}
use Rattle.codelets.specs.Cut.{line_uses}
use Rattle.codelets.specs.Used.{Added}
use Rattle.codelets.proofs.used.add_piece.Given as goal

abbrev pub invariant-loop-number : goal.invariant-loop-number
invariant-loop-number l = Added (length l.flat.fields) (λ v. list_any (line_uses (cut_by l.flat l.graph) v) (take l.number-index l.c)) l.fn.numbers l.numbers
