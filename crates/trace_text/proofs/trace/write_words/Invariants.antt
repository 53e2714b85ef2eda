use Rattle.std.proofs.Common.{◌≡◌, map, take}
use Rattle.trace_text.specs.Stored.{word_at}
use Rattle.trace_text.proofs.trace.write_words.Given as goal

abbrev pub invariant-loop-field : goal.invariant-loop-field
invariant-loop-field l = take l.field l.words ≡ map (word_at l.row) (take l.field l.columns)
