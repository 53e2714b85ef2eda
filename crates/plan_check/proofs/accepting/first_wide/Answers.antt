use Rattle.std.proofs.Common.{◌+◌, sym, arith}
use Rattle.plan_check.specs.HandFaults.{wide_at}
use Rattle.plan_check.proofs.Firsts.{first_with, none_with}
use Rattle.plan_check.proofs.accepting.first_wide.Goals as goal

pub returns-in-Some : goal.returns-in-Some
returns-in-Some c =
    sym (first_with (wide_at c.args.sl c.args.sf c.args.places.now) 1 c.stages.k c.args.depth (c.stages.k + 1) c.in-Some.fault (omega arith) c.stages-test.true c.stages.invariant (sym c.in-Some.ensures))

pub stages-preserved : goal.stages-preserved
stages-preserved c =
    none_with (wide_at c.args.sl c.args.sf c.args.places.now) 1 c.stages.k (c.stages.k + 1) (omega arith) c.stages.invariant (sym c.in-None.ensures)
