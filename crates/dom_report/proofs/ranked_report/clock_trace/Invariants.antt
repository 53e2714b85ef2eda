use Rattle.std.proofs.Common.{◌≡◌, length, take}
use Rattle.trace_text.specs.Trace.{entries}
use Rattle.dom_report.specs.RankedCycles.{CanTurn, RankedOver}
use Rattle.dom_report.proofs.ranked_report.clock_trace.Given as goal

abbrev pub invariant-loop-k : goal.invariant-loop-k
invariant-loop-k g l = record {
  over : RankedOver (g.H.HashUnits.meaning l.hash) l.every l.initial.ranked l.ranked l.initial.progress l.progress (g.S.Sink.held l.initial.sink) (g.S.Sink.held l.sink) (entries (take l.k l.trace));
  can : CanTurn l.every l.ranked l.progress l.lines l.served l.dropped;
  count : g.S.Sink.faults l.sink ≡ g.S.Sink.faults l.initial.sink;
  config : l.ranked.machine.config ≡ l.initial.ranked.machine.config;
  entering : length l.entering ≡ length l.initial.entering;
  same : l.lines ≡ l.initial.lines;
}
