use Rattle.std.proofs.Common.{◌≡◌, map, ◌++◌, drop}
use Rattle.dom_ast.specs.Flanks.{flank_form}
use Rattle.state_flanks.specs.inner.Tables.{new_writes}
use Rattle.state_flanks.proofs.writes.put_writes.Given as goal

abbrev pub invariant-loop-place : goal.invariant-loop-place
invariant-loop-place l = record {
  items : map flank_form l.items ++ new_writes l.array (drop l.place-index l.written) ≡ map flank_form l.fn.items ++ new_writes 0 l.written;
  array : l.array ≡ l.place-index;
}
