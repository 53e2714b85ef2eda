use Rattle.std.proofs.Common.{length}
use Rattle.trace_text.specs.Plain.{ArePlainRows}
use Rattle.trace_text.proofs.plain.read_plain_rows.Given as goal

abbrev pub invariant-loop-cells : goal.invariant-loop-cells
invariant-loop-cells l = ArePlainRows l.width l.count l.cells.items l.text l.behind

abbrev pub decreases-loop-cells : goal.decreases-loop-cells
decreases-loop-cells l = length l.behind
