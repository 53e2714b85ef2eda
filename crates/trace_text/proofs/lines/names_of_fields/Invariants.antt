use Rattle.std.proofs.Common.{◌≡◌, take}
use Rattle.trace_text.proofs.lines.names_of_fields.Given as goal

abbrev pub invariant-loop-k : goal.invariant-loop-k
invariant-loop-k l = l.names ≡ take l.k l.fields
