use Rattle.std.proofs.Common.{◌≡◌, ◌<◌, ℕ, true, []}
use Rattle.std.specs.Prelude.{slice_index_or}
use Rattle.codelets.specs.Lists.{has}
use Rattle.codelets.proofs.owners.owners_of.Given as goal

abbrev pub invariant-loop-k : goal.invariant-loop-k
invariant-loop-k l = (j a : ℕ) → j < l.k → has (slice_index_or l.list j []) a ≡ true → slice_index_or l.owners a 0 ≡ j
