use Rattle.trace_text.proofs.PlainRows.{rows-more}
use Rattle.trace_text.proofs.plain.read_plain_rows.Goals as goal

pub loop-cells-preserved : goal.loop-cells-preserved
loop-cells-preserved c =
    rows-more c.args.width c.loop-cells.count c.loop-cells.cells.items c.next_plain_row.new.cells.items c.args.text.now c.loop-cells.behind.now c.in-Some.rest.now
    c.requires.some c.loop-cells.invariant (rw c.in-Some.is at c.in_ok-rest.ensures.row)
