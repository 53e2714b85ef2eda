use Rattle.std.proofs.Common.{◌≡◌, ◌+◌, ◌*◌, ◌≤◌, ◌++◌, drop, length, map, vec_len}
use Rattle.trace_text.specs.Lines.{after_commas, made, word_text}
use Rattle.trace_text.proofs.lines.Line.words.Given as goal

abbrev pub invariant-loop-k : goal.invariant-loop-k
invariant-loop-k l = record {
  text : made l.self.start l.self.bytes.items ≡ after_commas (map word_text (drop l.k l.words)) ++ made l.initial.self.start l.initial.self.bytes.items;
  left : l.initial.self.start + 12 * l.k ≤ l.self.start + 12 * length l.words;
  room : vec_len l.self.bytes ≡ vec_len l.initial.self.bytes;
}
