use Rattle.std.proofs.Common.{◌≡◌, None, replicate}
use Rattle.dom_report.specs.RankedCycles.{CanTurn, RankedOver}
use Rattle.dom_report.proofs.ranked_report.clock_idle.Given as goal

abbrev pub invariant-loop-done : goal.invariant-loop-done
invariant-loop-done g l = record {
  over : RankedOver (g.H.HashUnits.meaning l.hash) l.every l.initial.ranked l.ranked l.initial.progress l.progress (g.S.Sink.held l.initial.sink) (g.S.Sink.held l.sink) (replicate l._done None);
  can : CanTurn l.every l.ranked l.progress l.lines l.served l.dropped;
  count : g.S.Sink.faults l.sink ≡ g.S.Sink.faults l.initial.sink;
  config : l.ranked.machine.config ≡ l.initial.ranked.machine.config;
  same : l.lines ≡ l.initial.lines;
}
