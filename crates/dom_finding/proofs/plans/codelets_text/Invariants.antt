use Rattle.std.proofs.Common.{◌≡◌, map, take}
use Rattle.trace_text.specs.Lines.{joined}
use Rattle.dom_finding.specs.Listing.{codelet_line}
use Rattle.dom_finding.proofs.plans.codelets_text.Given as goal

abbrev pub invariant-codelets : goal.invariant-codelets
invariant-codelets l = l.text.items ≡ joined (map (codelet_line l.list) (take l.k l.list))
