use Rattle.std.proofs.Common.{ap, nat_eq, not, ◌∙◌}
use Rattle.trace_text.specs.Lines.{joined}
use Rattle.banzai_config.specs.Checked.{shape_with}
use Rattle.banzai_config.proofs.Staged.{legal_depth}
use Rattle.banzai_config.specs.Targets.{shape_of}
use Rattle.dom_finding.proofs.Stopped.{compile_stops}
use Rattle.dom_report.specs.SelfRun.{summary_lines}
use Rattle.dom_shell.proofs.Clocked.{answer_for, legal_multiplied}
use Rattle.dom_shell.proofs.commands.selfrun.summed.Goals as goal

pub clocked-requires-clause-stages : goal.clocked-requires-clause-stages
clocked-requires-clause-stages g c = legal_depth (shape_with g.T.AtomTemplate.fits g.T.AtomTemplate.CONST_BITS g.row.DEPTH g.row.SL g.row.SF (not (nat_eq g.row.MUL 0))) c.in-Ok.config c.in-Ok.ensures.config.2.legal

pub clocked-requires-clause-legal : goal.clocked-requires-clause-legal
clocked-requires-clause-legal g c = legal_multiplied g.T.AtomTemplate.fits g.T.AtomTemplate.CONST_BITS g.row.DEPTH g.row.SL g.row.SF (not (nat_eq g.row.MUL 0)) c.in-Ok.config c.in-Ok.ensures.config.2.legal

pub returns-in-Err-clause-stop : goal.returns-in-Err-clause-stop
returns-in-Err-clause-stop g c =
    compile_stops (shape_of c.args.target) c.args.text.now c.in-Err.fault c.compile_stop.result c.compile_stop.ensures (rw (← c.requires.shape) at c.in-Err.ensures.refused)

pub returns-clause-written : goal.returns-clause-written
returns-clause-written g c = (
  c.in-Ok.config,
  answer_for c.args.target (shape_with g.T.AtomTemplate.fits g.T.AtomTemplate.CONST_BITS g.row.DEPTH g.row.SL g.row.SF (not (nat_eq g.row.MUL 0))) c.args.text.now c.in-Ok.config c.requires.shape c.in-Ok.ensures.config,
  c.in_ok-summary_text.ensures ∙ ap (λ summary. joined (summary_lines c.args.target c.args.seed c.args.count summary)) c.in_ok-summary.ensures,
)
