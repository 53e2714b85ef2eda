use Rattle.std.proofs.Common.{Ok, nat_eq, not, refl}
use Rattle.dom_finding.proofs.Stopped.{front_stops}
use Rattle.dom_shell.proofs.Plans.{front_for, front_stop_for}
use Rattle.dom_shell.proofs.commands.plans.listed.Goals as goal

pub returns-in-Err-clause-stop : goal.returns-in-Err-clause-stop
returns-in-Err-clause-stop g c =
    front_stop_for c.args.target g.T.AtomTemplate.fits g.T.AtomTemplate.CONST_BITS g.row.DEPTH g.row.SL g.row.SF (not (nat_eq g.row.MUL 0)) c.args.text.now c.compile_stop.result c.requires.shape
    (front_stops g.T.AtomTemplate.fits (not (nat_eq g.row.MUL 0)) c.args.text.now c.in-Err.fault c.compile_stop.result c.compile_stop.ensures c.in-Err.ensures.refused)

pub returns-clause-written : goal.returns-clause-written
returns-clause-written g c = (
  c.in-Ok.found.0.list,
  front_for c.args.target g.T.AtomTemplate.fits g.T.AtomTemplate.CONST_BITS g.row.DEPTH g.row.SL g.row.SF (not (nat_eq g.row.MUL 0)) c.args.text.now (Ok c.in-Ok.found.0.list) c.requires.shape (c.in-Ok.found.0, c.in-Ok.ensures.fitted, refl),
  c.in_ok-codelets_text.ensures,
)
