use Rattle.std.proofs.Common.{length, slice_get, sym, arith}
use Rattle.plan_check.specs.HandFaults.{early_if}
use Rattle.plan_check.proofs.Firsts.{first_with, none_with}
use Rattle.plan_check.proofs.accepting.first_early.Goals as goal

pub returns-in-Some : goal.returns-in-Some
returns-in-Some c =
    sym (first_with (λ k. early_if c.args.codelets.now c.args.places.now k (slice_get c.args.codelets.now k)) 0 c.codelets.k (length c.args.codelets.now) c.codelets.k c.in-Some.fault (omega arith) c.codelets-test.true c.codelets.invariant (sym c.in-Some.ensures))

pub codelets-preserved : goal.codelets-preserved
codelets-preserved c =
    none_with (λ k. early_if c.args.codelets.now c.args.places.now k (slice_get c.args.codelets.now k)) 0 c.codelets.k c.codelets.k (omega arith) c.codelets.invariant (sym c.in-None.ensures)
