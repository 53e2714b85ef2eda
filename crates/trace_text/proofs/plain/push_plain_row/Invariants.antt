use Rattle.std.proofs.Common.{◌≡◌, ℕ, List, ◌++◌}
use Rattle.trace_text.proofs.PlainRows.{AtField}
use Rattle.trace_text.proofs.plain.push_plain_row.Given as goal

abbrev pub invariant-loop-column : goal.invariant-loop-column
invariant-loop-column l = (numbers : List ℕ) × (l.cells.items ≡ l.fn.cells.items ++ numbers) × AtField l.text l.behind l._column numbers
