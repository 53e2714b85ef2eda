use Rattle.std.proofs.Common.{◌≤◌, ◌<◌, ◌+◌, ◌*◌, ◌^◌, true, arith, mul-le-mul_left}
use Rattle.banzai_config.specs.Checked.{shape_with}
use Rattle.banzai_config.specs.Legal.{Shape}
use Rattle.banzai_config.proofs.Staged.{legal_depth, legal_numbers}
use Rattle.banzai_machine.proofs.LegalRuns.{legal_runs}
use Rattle.elastic_machine.proofs.elastic.Elastic.new.Goals as goal

pub of-requires : goal.of-requires
of-requires g c =
    let shape : Shape = shape_with g.T.AtomTemplate.fits g.T.AtomTemplate.CONST_BITS g.row.DEPTH g.row.SL g.row.SF true in
    let numbers = legal_numbers shape c.args.config c.requires.legal in
    let some : 1 ≤ c.args.config.containers = omega (arith, numbers.some_fields, numbers.room_for_fields) in
    let places : (g.row.DEPTH + 1) * g.row.CAP < 2 ^ 31 = omega (arith, mul-le-mul_left ((g.row.DEPTH + 1) * g.row.CAP) some, c.requires.size) in (
      omega arith,
      (
        legal_depth shape c.args.config c.requires.legal,
        (legal_runs shape c.args.config c.requires.legal c.requires.some c.requires.depth, (c.requires.cap, places)),
      ),
    )
