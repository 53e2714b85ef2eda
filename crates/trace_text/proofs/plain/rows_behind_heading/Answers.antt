use Rattle.std.proofs.Common.{◌≤◌, length, sym, ap, ◌∙◌, arith, length-drop}
use Rattle.trace_text.proofs.PlainRows.{rows-behind, shorter-unmarked, unmarked-at-end}
use Rattle.trace_text.proofs.plain.rows_behind_heading.Goals as goal

pub returns-then-is_row_end-clause-rows : goal.returns-then-is_row_end-clause-rows
returns-then-is_row_end-clause-rows c =
    let ended = sym c.is_row_end.ensures ∙ c.if-is_row_end.true in
    rw (sym c.without_mark-text.ensures) (rows-behind c.without_mark-text.result.now c.behind_bytes-heading.result.now c.behind_bytes-rows.result.now
    c.line_ends.result c.line_size-size.result c.behind_bytes-heading.ensures c.behind_bytes-rows.ensures c.line_ends.ensures.ends c.line_size-size.ensures.inside
    c.if-size-gt0.true c.line_size-size.ensures.within ended)

pub returns-then-is_row_end-clause-unmarked : goal.returns-then-is_row_end-clause-unmarked
returns-then-is_row_end-clause-unmarked c = unmarked-at-end c.behind_bytes-rows.result.now (sym c.is_row_end.ensures ∙ c.if-is_row_end.true)

pub returns-then-is_row_end-clause-shorter : goal.returns-then-is_row_end-clause-shorter
returns-then-is_row_end-clause-shorter c =
    let rows = ap length c.behind_bytes-rows.ensures ∙ length-drop c.line_size-size.result c.behind_bytes-heading.result.now in
    let line = ap length c.behind_bytes-heading.ensures ∙ length-drop c.line_ends.result c.without_mark-text.result.now in
    let text : length c.without_mark-text.result.now ≤ length c.args.text.now = rw c.without_mark-text.ensures (shorter-unmarked c.args.text.now) in
    omega (arith, rows, line, text)
