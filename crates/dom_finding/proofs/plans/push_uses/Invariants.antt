use Rattle.std.proofs.Common.{◌≡◌, ◌++◌, map, take}
use Rattle.trace_text.specs.Lines.{after_commas, count_text}
use Rattle.plan_check.specs.HandFaults.{number_at}
use Rattle.dom_finding.proofs.plans.push_uses.Given as goal

abbrev pub invariant-loop-used : goal.invariant-loop-used
invariant-loop-used l = l.text.items ≡ l.initial.text.items ++ after_commas (map (λ u. count_text (number_at l.list u)) (take l.used-index l.uses))
