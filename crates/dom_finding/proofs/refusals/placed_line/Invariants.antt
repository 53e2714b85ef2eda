use Rattle.std.proofs.Common.{◌≡◌, ◌++◌, map, take}
use Rattle.trace_text.specs.Lines.{after_commas, count_text}
use Rattle.dom_finding.proofs.refusals.placed_line.Given as goal

abbrev pub invariant-loop-number : goal.invariant-loop-number
invariant-loop-number l = l.line.items ≡ l.initial.line.items ++ after_commas (map count_text (take l.number-index l.numbers))
