use Rattle.std.proofs.Common.{◌≡◌, ◌-◌, length}
use Rattle.std.specs.List.{range_with_len}
use Rattle.codelets.specs.ByRows.{linked_by}
use Rattle.codelets.specs.Linked.{twins_in}
use Rattle.codelets.proofs.groups.find_twins.Given as goal

abbrev pub invariant-loop-k : goal.invariant-loop-k
invariant-loop-k l = l.twins.items ≡ twins_in (linked_by l.flat l.graph) (range_with_len (length l.flat.lines - l.k) l.k)
