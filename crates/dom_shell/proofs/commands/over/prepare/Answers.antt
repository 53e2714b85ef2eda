use Rattle.std.proofs.Common.{ℕ, ◌≤◌, ◌∙◌, arith, nat_eq, not, refl, subst, sym}
use Rattle.banzai_config.specs.Checked.{shape_with}
use Rattle.banzai_config.specs.Parts.{parts_form}
use Rattle.banzai_config.proofs.Staged.{legal_depth}
use Rattle.dom_finding.specs.Command.{configs_named}
use Rattle.dom_finding.specs.Configs.{config_form}
use Rattle.dom_finding.proofs.Stopped.{rule_stops}
use Rattle.dom_shell.proofs.Clocked.{legal_multiplied}
use Rattle.dom_shell.proofs.Over.{config_of, config_stops, found_over, legal_of, over_found, over_stops, task_stops}
use Rattle.dom_shell.proofs.Texts as lemma
use Rattle.dom_shell.proofs.commands.over.prepare.Goals as goal

pub returns-in-Err-clause-stop : goal.returns-in-Err-clause-stop
returns-in-Err-clause-stop g c name text spelled =
    config_stops c.args.what (configs_named name c.args.trace.now) (g.F.Shelf.content c.args.shelf.now) text (g.F.Shelf.faults c.args.shelf.now) (g.F.Shelf.faults c.args.shelf.now) c.config_stop.result (λ _. refl)
    (rule_stops c.args.target (parts_form c.args.parts) text c.in-Err.fault c.config_stop.result c.config_stop.ensures spelled (rw (← c.requires.shape) at c.in-Err.ensures.fault))

pub returns-in-Some-clause-stop : goal.returns-in-Some-clause-stop
returns-in-Some-clause-stop g c name text spelled =
    let is = config_of c.args.target (parts_form c.args.parts) c.in-Ok.config c.in-Ok.ensures.parts (shape_with g.T.AtomTemplate.fits g.T.AtomTemplate.CONST_BITS g.row.DEPTH g.row.SL g.row.SF (not (nat_eq g.row.MUL 0))) text c.requires.shape spelled c.in-Ok.ensures.legal in
    task_stops c.args.what (configs_named name c.args.trace.now) (g.F.Shelf.content c.args.shelf.now) text (g.F.Shelf.faults c.args.shelf.now) (g.F.Shelf.faults c.args.shelf.now) (config_form c.args.target c.in-Ok.config) c.in-Some.refusal
    is (sym c.against.ensures ∙ c.in-Some.is) (λ _. refl)

pub returns-in-None-clause-found : goal.returns-in-None-clause-found
returns-in-None-clause-found g c name text spelled =
    let is = config_of c.args.target (parts_form c.args.parts) c.in-Ok.config c.in-Ok.ensures.parts (shape_with g.T.AtomTemplate.fits g.T.AtomTemplate.CONST_BITS g.row.DEPTH g.row.SL g.row.SF (not (nat_eq g.row.MUL 0))) text c.requires.shape spelled c.in-Ok.ensures.legal in
    let clear = sym c.against.ensures ∙ c.in-None.is in
    lemma.ok_of_both _ _ _ c.traced.result
    (λ run same traced. found_over c.args.what (configs_named name c.args.trace.now) text (g.F.Shelf.content c.args.shelf.now) c.in-Ok.config run.machine.config run.trace same
    (over_found c.args.what (configs_named name c.args.trace.now) (g.F.Shelf.content c.args.shelf.now) text (config_form c.args.target c.in-Ok.config) is clear run.trace traced))
    c.traced.ensures.config c.traced.ensures.trace

pub returns-in-None-clause-stop : goal.returns-in-None-clause-stop
returns-in-None-clause-stop g c name text spelled =
    let is = config_of c.args.target (parts_form c.args.parts) c.in-Ok.config c.in-Ok.ensures.parts (shape_with g.T.AtomTemplate.fits g.T.AtomTemplate.CONST_BITS g.row.DEPTH g.row.SL g.row.SF (not (nat_eq g.row.MUL 0))) text c.requires.shape spelled c.in-Ok.ensures.legal in
    let clear = sym c.against.ensures ∙ c.in-None.is in
    lemma.err_of _ _ c.traced.result
    (λ s. over_stops c.args.what (configs_named name c.args.trace.now) (g.F.Shelf.content c.args.shelf.now) text (config_form c.args.target c.in-Ok.config) is clear
    (g.F.Shelf.faults c.args.shelf.now) (g.F.Shelf.faults c.traced.new.shelf) s)
    c.traced.ensures.stop

pub traced-requires : goal.traced-requires
traced-requires g c =
    let legal = legal_of c.args.target (parts_form c.args.parts) c.in-Ok.config c.in-Ok.ensures.parts (shape_with g.T.AtomTemplate.fits g.T.AtomTemplate.CONST_BITS g.row.DEPTH g.row.SL g.row.SF (not (nat_eq g.row.MUL 0))) c.in-Ok.ensures.legal in (
      omega arith,
      (
        c.requires.depth,
        (
          legal_depth (shape_with g.T.AtomTemplate.fits g.T.AtomTemplate.CONST_BITS g.row.DEPTH g.row.SL g.row.SF (not (nat_eq g.row.MUL 0))) c.in-Ok.config legal,
          legal_multiplied g.T.AtomTemplate.fits g.T.AtomTemplate.CONST_BITS g.row.DEPTH g.row.SL g.row.SF (not (nat_eq g.row.MUL 0)) c.in-Ok.config legal,
        ),
      ),
    )

pub against-requires : goal.against-requires
against-requires g c =
    let legal = legal_of c.args.target (parts_form c.args.parts) c.in-Ok.config c.in-Ok.ensures.parts (shape_with g.T.AtomTemplate.fits g.T.AtomTemplate.CONST_BITS g.row.DEPTH g.row.SL g.row.SF (not (nat_eq g.row.MUL 0))) c.in-Ok.ensures.legal in
    let depth = legal_depth (shape_with g.T.AtomTemplate.fits g.T.AtomTemplate.CONST_BITS g.row.DEPTH g.row.SL g.row.SF (not (nat_eq g.row.MUL 0))) c.in-Ok.config legal in
    record { stages = subst (λ (d : ℕ). d ≤ 65535) (sym depth) c.requires.depth.1 }
