use Rattle.std.proofs.Common.{◌-◌, length}
use Rattle.dom_parser.proofs.SoFar.{FieldsSoFar}
use Rattle.dom_parser.proofs.heads.more_fields.Given as goal

abbrev pub invariant-fields : goal.invariant-fields
invariant-fields l = FieldsSoFar l.tokens l.at l.next l.fields

abbrev pub decreases-fields : goal.decreases-fields
decreases-fields l = length l.tokens - l.next
