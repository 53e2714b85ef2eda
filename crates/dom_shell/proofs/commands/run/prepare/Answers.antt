use Rattle.std.proofs.Common.{arith, nat_eq, not, refl}
use Rattle.banzai_config.specs.Checked.{shape_with}
use Rattle.banzai_config.proofs.Staged.{legal_depth}
use Rattle.banzai_config.specs.Targets.{shape_of}
use Rattle.dom_finding.specs.Command.{files_named}
use Rattle.dom_finding.proofs.Stopped.{compile_stops}
use Rattle.dom_shell.proofs.Clocked.{answer_for, found_for, legal_multiplied, program_stops, run_found, run_stops}
use Rattle.dom_shell.proofs.Texts as lemma
use Rattle.dom_shell.proofs.commands.run.prepare.Goals as goal

pub returns-in-Err-clause-stop : goal.returns-in-Err-clause-stop
returns-in-Err-clause-stop g c name =
    program_stops c.args.target (files_named name c.args.trace.now) c.args.text.now (g.F.Shelf.content c.args.shelf.now) (g.F.Shelf.faults c.args.shelf.now) (g.F.Shelf.faults c.args.shelf.now) c.compile_stop.result (λ _. refl)
    (compile_stops (shape_of c.args.target) c.args.text.now c.in-Err.fault c.compile_stop.result c.compile_stop.ensures (rw (← c.requires.shape) at c.in-Err.ensures.refused))

pub returns-clause-found : goal.returns-clause-found
returns-clause-found g c name =
    let answer = answer_for c.args.target (shape_with g.T.AtomTemplate.fits g.T.AtomTemplate.CONST_BITS g.row.DEPTH g.row.SL g.row.SF (not (nat_eq g.row.MUL 0))) c.args.text.now c.in-Ok.config c.requires.shape c.in-Ok.ensures.config in
    lemma.ok_of_both _ _ _ c.traced.result
    (λ run is traced. found_for c.args.target (files_named name c.args.trace.now) c.args.text.now (g.F.Shelf.content c.args.shelf.now) c.in-Ok.config run.machine.config run.trace is
    (run_found c.args.target (files_named name c.args.trace.now) c.args.text.now (g.F.Shelf.content c.args.shelf.now) c.in-Ok.config answer run.trace traced))
    c.traced.ensures.config c.traced.ensures.trace

pub returns-clause-stop : goal.returns-clause-stop
returns-clause-stop g c name =
    let answer = answer_for c.args.target (shape_with g.T.AtomTemplate.fits g.T.AtomTemplate.CONST_BITS g.row.DEPTH g.row.SL g.row.SF (not (nat_eq g.row.MUL 0))) c.args.text.now c.in-Ok.config c.requires.shape c.in-Ok.ensures.config in
    lemma.err_of _ _ c.traced.result
    (λ s. run_stops c.args.target (files_named name c.args.trace.now) c.args.text.now (g.F.Shelf.content c.args.shelf.now) c.in-Ok.config answer
    (g.F.Shelf.faults c.args.shelf.now) (g.F.Shelf.faults c.traced.new.shelf) s)
    c.traced.ensures.stop

pub traced-requires : goal.traced-requires
traced-requires g c = (
  omega arith,
  (
    c.requires.depth,
    (
      legal_depth (shape_with g.T.AtomTemplate.fits g.T.AtomTemplate.CONST_BITS g.row.DEPTH g.row.SL g.row.SF (not (nat_eq g.row.MUL 0))) c.in-Ok.config c.in-Ok.ensures.config.2.legal,
      legal_multiplied g.T.AtomTemplate.fits g.T.AtomTemplate.CONST_BITS g.row.DEPTH g.row.SL g.row.SF (not (nat_eq g.row.MUL 0)) c.in-Ok.config c.in-Ok.ensures.config.2.legal,
    ),
  ),
)
