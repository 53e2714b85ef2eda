use Rattle.trace_text.proofs.PlainRows.{row-in}
use Rattle.trace_text.proofs.plain.next_plain_row.Goals as goal

pub returns-clause-row : goal.returns-clause-row
returns-clause-row c =
    row-in c.args.text.now c.behind_bytes-row.result.now c.in-Some.behind.now c.line_ends.result c.args.width c.args.cells.now.items c.push_plain_row.new.cells.items
    c.behind_bytes-row.ensures c.line_ends.ensures.ends (rw c.in-Some.is at c.in_ok-behind.ensures.row)
