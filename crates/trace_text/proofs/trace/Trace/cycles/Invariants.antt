use Rattle.std.proofs.Common.{◌≡◌, ◌*◌, ◌≤◌, take}
use Rattle.trace_text.specs.Trace.{cycles_of}
use Rattle.trace_text.proofs.trace.Trace.cycles.Given as goal

abbrev pub invariant-loop-k : goal.invariant-loop-k
invariant-loop-k l = record {
  cycles : l.cycles ≡ cycles_of (take l.k l.self);
  small : l.cycles ≤ l.k * 4294967296;
}
