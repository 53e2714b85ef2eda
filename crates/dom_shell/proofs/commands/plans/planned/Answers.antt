use Rattle.std.proofs.Common.{map, nat_eq, not, refl}
use Rattle.atom_match.specs.Atoms.{atom_form}
use Rattle.dom_finding.specs.Files.{ask_of}
use Rattle.dom_finding.specs.Finding.{plan_file}
use Rattle.dom_finding.proofs.Stopped.{front_stops}
use Rattle.dom_shell.proofs.Plans.{fitted_for, front_stop, front_stop_for, no_plan, plan_found, plan_stops}
use Rattle.dom_shell.proofs.Texts as lemma
use Rattle.dom_shell.proofs.commands.plans.planned.Goals as goal

pub returns-in-Err-clause-stop : goal.returns-in-Err-clause-stop
returns-in-Err-clause-stop g c name =
    front_stop c.args.target name c.args.plan.now c.args.text.now (g.F.Shelf.content c.args.shelf.now) (g.F.Shelf.faults c.args.shelf.now) (g.F.Shelf.faults c.args.shelf.now) c.compile_stop.result (λ _. refl)
    (front_stop_for c.args.target g.T.AtomTemplate.fits g.T.AtomTemplate.CONST_BITS g.row.DEPTH g.row.SL g.row.SF (not (nat_eq g.row.MUL 0)) c.args.text.now c.compile_stop.result c.requires.shape
    (front_stops g.T.AtomTemplate.fits (not (nat_eq g.row.MUL 0)) c.args.text.now c.in-Err.fault c.compile_stop.result c.compile_stop.ensures c.in-Err.ensures.refused))

pub returns-in-Err-text_in-clause-stop : goal.returns-in-Err-text_in-clause-stop
returns-in-Err-text_in-clause-stop g c name =
    no_plan c.args.target name c.args.plan.now c.args.text.now (g.F.Shelf.content c.args.shelf.now) c.in-Ok.found.0
    (fitted_for c.args.target g.T.AtomTemplate.fits g.T.AtomTemplate.CONST_BITS g.row.DEPTH g.row.SL g.row.SF (not (nat_eq g.row.MUL 0)) c.args.text.now c.in-Ok.found.0 c.requires.shape c.in-Ok.ensures.fitted) (g.F.Shelf.faults c.args.shelf.now) (g.F.Shelf.faults c.text_in.new.shelf) c.in-Err-text_in.stop
    (lemma.stop_of (g.F.Shelf.content c.args.shelf.now) (g.F.Shelf.faults c.args.shelf.now) (g.F.Shelf.faults c.text_in.new.shelf) (ask_of c.plan_file.result) (plan_file c.args.plan.now) c.in-Err-text_in.stop c.plan_file.ensures c.in-Err-text_in.ensures.stop)

pub returns-clause-found : goal.returns-clause-found
returns-clause-found g c name =
    let plan = lemma.text_of (g.F.Shelf.content c.args.shelf.now) (ask_of c.plan_file.result) (plan_file c.args.plan.now) c.in-Ok-text_in.lines.items c.plan_file.ensures c.in-Ok-text_in.ensures.text in
    lemma.ok_of _ _ c.by_plan.result
    (λ written is. plan_found c.args.target name c.args.plan.now c.args.text.now (g.F.Shelf.content c.args.shelf.now) c.in-Ok.found.0
    (fitted_for c.args.target g.T.AtomTemplate.fits g.T.AtomTemplate.CONST_BITS g.row.DEPTH g.row.SL g.row.SF (not (nat_eq g.row.MUL 0)) c.args.text.now c.in-Ok.found.0 c.requires.shape c.in-Ok.ensures.fitted) (map (atom_form g.T.AtomTemplate.trees_of) c.in-Ok.found.1.list) c.in-Ok.ensures.atoms c.in-Ok-text_in.lines.items plan written.items is)
    (rw c.as_slice.ensures.value at c.by_plan.ensures.written)

pub returns-clause-stop : goal.returns-clause-stop
returns-clause-stop g c name =
    let plan = lemma.text_of (g.F.Shelf.content c.args.shelf.now) (ask_of c.plan_file.result) (plan_file c.args.plan.now) c.in-Ok-text_in.lines.items c.plan_file.ensures c.in-Ok-text_in.ensures.text in
    lemma.err_of _ _ c.by_plan.result
    (λ stop is. plan_stops c.args.target name c.args.plan.now c.args.text.now (g.F.Shelf.content c.args.shelf.now) c.in-Ok.found.0
    (fitted_for c.args.target g.T.AtomTemplate.fits g.T.AtomTemplate.CONST_BITS g.row.DEPTH g.row.SL g.row.SF (not (nat_eq g.row.MUL 0)) c.args.text.now c.in-Ok.found.0 c.requires.shape c.in-Ok.ensures.fitted) (map (atom_form g.T.AtomTemplate.trees_of) c.in-Ok.found.1.list) c.in-Ok.ensures.atoms c.in-Ok-text_in.lines.items plan (g.F.Shelf.faults c.args.shelf.now) (g.F.Shelf.faults c.text_in.new.shelf) stop c.in-Ok-text_in.ensures.kept is)
    (rw c.as_slice.ensures.value at c.by_plan.ensures.stop)

pub by_plan-requires-clause-can : goal.by_plan-requires-clause-can
by_plan-requires-clause-can g c = record {
  some = c.requires.depth.0;
  few = c.requires.depth.1;
  some_stateless = c.requires.stateless.0;
  few_stateless = c.requires.stateless.1;
  some_stateful = c.requires.stateful.0;
  few_stateful = c.requires.stateful.1;
  atoms_are = c.in-Ok.ensures.atoms;
  fit = c.in-Ok.ensures.fitted.inside;
  fields = c.in-Ok.ensures.fields;
  arrays = c.in-Ok.ensures.arrays;
}

pub by_plan-requires-clause-shape : goal.by_plan-requires-clause-shape
by_plan-requires-clause-shape g c = c.requires.shape
