use Rattle.std.proofs.Common.{◌≡◌, None}
use Rattle.std.specs.List.{range_with_len}
use Rattle.codelets.specs.Lists.{first_some}
use Rattle.plan_check.specs.HandFaults.{wide_at}
use Rattle.plan_check.proofs.accepting.first_wide.Given as goal

abbrev pub invariant-stages : goal.invariant-stages
invariant-stages l = first_some (wide_at l.sl l.sf l.places) (range_with_len 1 l.k) ≡ None
