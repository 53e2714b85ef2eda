use Rattle.std.proofs.Common.{◌≡◌, ◌≤◌, length}
use Rattle.std.specs.List.{filter, range_with_len}
use Rattle.codelets.specs.ByRows.{linked_by}
use Rattle.codelets.specs.Linked.{together}
use Rattle.codelets.proofs.groups.class_with.Given as goal

abbrev pub invariant-loop-b : goal.invariant-loop-b
invariant-loop-b l = record {
  within : l.b ≤ length l.flat.lines;
  class : l.class ≡ filter (together (linked_by l.flat l.graph) l.a) (range_with_len 0 l.b);
}
