use Rattle.std.proofs.Common.{◌-◌, length}
use Rattle.trace_text.proofs.EventLines.{ReadTo}
use Rattle.trace_text.proofs.events.read_events.Given as goal

abbrev pub invariant-lines : goal.invariant-lines
invariant-lines l = ReadTo l.depth l.text l.events.items l.at l.number

abbrev pub decreases-lines : goal.decreases-lines
decreases-lines l = length l.text - l.at
