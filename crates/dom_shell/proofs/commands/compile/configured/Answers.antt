use Rattle.std.proofs.Common.{nat_eq, not}
use Rattle.banzai_config.specs.Checked.{shape_with}
use Rattle.banzai_config.specs.Targets.{shape_of}
use Rattle.dom_finding.proofs.Stopped.{compile_stops}
use Rattle.dom_shell.proofs.Clocked.{answer_for}
use Rattle.dom_shell.proofs.commands.compile.configured.Goals as goal

pub returns-in-Err-clause-stop : goal.returns-in-Err-clause-stop
returns-in-Err-clause-stop g c =
    compile_stops (shape_of c.args.target) c.args.text.now c.in-Err.fault c.compile_stop.result c.compile_stop.ensures (rw (← c.requires.shape) at c.in-Err.ensures.refused)

pub returns-in_ok-write_config-in-Ok-clause-written : goal.returns-in_ok-write_config-in-Ok-clause-written
returns-in_ok-write_config-in-Ok-clause-written g c = (
  c.in-Ok.config,
  answer_for c.args.target (shape_with g.T.AtomTemplate.fits g.T.AtomTemplate.CONST_BITS g.row.DEPTH g.row.SL g.row.SF (not (nat_eq g.row.MUL 0))) c.args.text.now c.in-Ok.config c.requires.shape c.in-Ok.ensures.config,
  c.in_ok-write_config-in-Ok.ensures.text,
)
