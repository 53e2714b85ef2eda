use Rattle.std.proofs.Common.{true, arith}
use Rattle.banzai_config.specs.Checked.{shape_with}
use Rattle.banzai_config.proofs.Staged.{legal_depth}
use Rattle.banzai_machine.proofs.LegalRuns.{legal_runs}
use Rattle.banzai_machine.proofs.machine.Machine.new.Goals as goal

pub of-requires : goal.of-requires
of-requires g c = (
  omega arith,
  (
    legal_depth (shape_with g.T.AtomTemplate.fits g.T.AtomTemplate.CONST_BITS g.row.DEPTH g.row.SL g.row.SF true) c.args.config c.requires.legal,
    legal_runs (shape_with g.T.AtomTemplate.fits g.T.AtomTemplate.CONST_BITS g.row.DEPTH g.row.SL g.row.SF true) c.args.config c.requires.legal c.requires.some c.requires.depth,
  ),
)
