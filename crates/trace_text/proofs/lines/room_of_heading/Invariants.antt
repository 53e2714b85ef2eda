use Rattle.std.proofs.Common.{◌≡◌, length, take}
use Rattle.trace_text.specs.Lines.{after_commas}
use Rattle.trace_text.proofs.lines.room_of_heading.Given as goal

abbrev pub invariant-loop-name : goal.invariant-loop-name
invariant-loop-name l = l.room ≡ length (after_commas (take l.name-index l.names))
