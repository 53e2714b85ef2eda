use Rattle.std.proofs.Common.{◌≡◌, length, take}
use Rattle.trace_text.specs.Trace.{entries}
use Rattle.dom_report.proofs.run_report.cycles_over.Given as goal

abbrev pub invariant-loop-k : goal.invariant-loop-k
invariant-loop-k l = l.cycles ≡ length (entries (take l.k l.trace))
