use Rattle.std.proofs.Common.{◌≡◌, None, slice_get}
use Rattle.std.specs.List.{range_with_len}
use Rattle.codelets.specs.Lists.{first_some}
use Rattle.plan_check.specs.HandFaults.{early_if}
use Rattle.plan_check.proofs.accepting.first_early.Given as goal

abbrev pub invariant-codelets : goal.invariant-codelets
invariant-codelets l = first_some (λ k. early_if l.codelets l.places k (slice_get l.codelets k)) (range_with_len 0 l.k) ≡ None
