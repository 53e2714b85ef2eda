use Rattle.std.proofs.Common.{sym, ◌∙◌}
use Rattle.trace_text.proofs.PlainRows.{mark-none, mark-short, mark-there}
use Rattle.trace_text.proofs.plain.without_mark.Goals as goal
use Rattle.trace_text.proofs.plain.without_mark.Goals.{else-text-ge3-via-then-text-ge3+else-is_mark, else-text-ge3-via-else-text-ge3}

pub returns-then-is_mark : goal.returns-then-is_mark
returns-then-is_mark c = c.behind_bytes.ensures ∙ mark-there c.args.text.now c.if-text-ge3.true (sym c.is_mark.ensures ∙ c.if-is_mark.true)

pub returns-else-text-ge3 : goal.returns-else-text-ge3
returns-else-text-ge3 c = elim c.else-text-ge3.branch [
  | else-text-ge3-via-then-text-ge3+else-is_mark w ↦ mark-none c.args.text.now w.if-text-ge3.true (sym w.is_mark.ensures ∙ w.if-is_mark.false)
  | else-text-ge3-via-else-text-ge3 w ↦ mark-short c.args.text.now w.if-text-ge3.false
]
