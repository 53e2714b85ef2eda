use Rattle.std.proofs.Common.{◌≡◌, ◌+◌, ◌++◌, drop, length, vec_len}
use Rattle.trace_text.specs.Lines.{after_commas, made}
use Rattle.trace_text.proofs.lines.Line.names.Given as goal

abbrev pub invariant-loop-k : goal.invariant-loop-k
invariant-loop-k l = record {
  text : made l.self.start l.self.bytes.items ≡ after_commas (drop l.k l.names) ++ made l.initial.self.start l.initial.self.bytes.items;
  left : l.self.start + length (after_commas (drop l.k l.names)) ≡ l.initial.self.start;
  room : vec_len l.self.bytes ≡ vec_len l.initial.self.bytes;
}
