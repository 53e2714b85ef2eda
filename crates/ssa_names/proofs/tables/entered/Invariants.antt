use Rattle.std.proofs.Common.{◌≡◌}
use Rattle.ssa_names.specs.inner.Tables.{first_fields}
use Rattle.ssa_names.proofs.tables.entered.Given as goal

abbrev pub invariant-loop-k : goal.invariant-loop-k
invariant-loop-k l = l.all.items ≡ first_fields l.k
