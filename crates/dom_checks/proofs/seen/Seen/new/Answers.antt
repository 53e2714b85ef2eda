use Rattle.dom_checks.proofs.Tables.{no_tables}
use Rattle.dom_checks.proofs.seen.Seen.new.Goals as goal

pub invariant_of-result : goal.invariant_of-result
invariant_of-result c = rw c.new.ensures no_tables
