use Rattle.std.proofs.Common.{◌≡◌, ◌≤◌, length, take}
use Rattle.dom_io.specs.Held.{appended}
use Rattle.trace_text.specs.Lines.{joined}
use Rattle.dom_report.specs.ElasticEvents.{IsAt, packets_in}
use Rattle.dom_report.specs.ElasticReport.{after_events, first_moment, told_by, told_lines}
use Rattle.dom_report.proofs.elastic_report.put_events.Given as goal

abbrev pub invariant-loop-k : goal.invariant-loop-k
invariant-loop-k g l =
    let hash = g.H.HashUnits.meaning l.hash in
    let p = l.initial.elastic.config in
    let first = first_moment (packets_in l.trace) in
    record {
      at : IsAt hash g.row.CAP p l.trace l.elastic l.passed (after_events hash g.row.CAP p first (take l.k l.events));
      put : g.S.Sink.held l.sink ≡ appended (g.S.Sink.held l.initial.sink) (joined (told_lines 1 (told_by hash g.row.CAP p first (take l.k l.events))));
      count : g.S.Sink.faults l.sink ≡ g.S.Sink.faults l.initial.sink;
      config : l.elastic.config ≡ p;
      same : l.lines ≡ l.initial.lines;
      entering : length l.entering ≡ length l.initial.entering;
      leaving : length l.leaving ≡ length l.initial.leaving;
      few : l.passed.left ≤ l.k;
    }
