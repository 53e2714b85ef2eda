use Rattle.std.proofs.Common.{◌≡◌, ◌++◌, map, take}
use Rattle.trace_text.specs.Lines.{after_commas, count_text}
use Rattle.dom_finding.proofs.refusals.deep_line.Given as goal

abbrev pub invariant-loop-codelet : goal.invariant-loop-codelet
invariant-loop-codelet l = l.line.items ≡ l.initial.line.items ++ after_commas (map count_text (take l.codelet-index l.chain))
