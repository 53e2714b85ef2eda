use Rattle.std.proofs.Common.{◌≡◌, ◌++◌, List, ℕ, length}
use Rattle.dom_io.specs.Held.{appended}
use Rattle.dom_report.proofs.text.put_text.Given as goal

abbrev pub invariant-loop-rest : goal.invariant-loop-rest
invariant-loop-rest g l = record {
  put : (done : List ℕ) × (l.initial.rest ≡ done ++ l.rest) × (g.S.Sink.held l.sink ≡ appended (g.S.Sink.held l.initial.sink) done);
  count : g.S.Sink.faults l.sink ≡ g.S.Sink.faults l.initial.sink;
}

abbrev pub decreases-loop-rest : goal.decreases-loop-rest
decreases-loop-rest g l = length l.rest
