use Rattle.std.proofs.Common.{Err, map, nat_eq, not, subst, sym}
use Rattle.atom_match.specs.Atoms.{atom_form}
use Rattle.banzai_config.specs.Checked.{shape_with}
use Rattle.dom_finding.specs.Finding.{GivesByPlan, found}
use Rattle.dom_finding.specs.declared.refusals.Refusal.{Refusal}
use Rattle.dom_shell.proofs.Plans.{bad_text, faulty, lawful}
use Rattle.dom_shell.proofs.commands.plans.by_plan.Goals as goal

pub returns-in-Err-clause-stop : goal.returns-in-Err-clause-stop
returns-in-Err-clause-stop g c =
    bad_text c.args.target c.args.codelets.now (map (atom_form g.T.AtomTemplate.trees_of) c.args.atoms.now.list) c.args.text.now (shape_with g.T.AtomTemplate.fits g.T.AtomTemplate.CONST_BITS g.row.DEPTH g.row.SL g.row.SF (not (nat_eq g.row.MUL 0))) c.requires.shape c.in-Err.stop c.in-Err.ensures.stop

pub returns-in-Err-accept-clause-stop : goal.returns-in-Err-accept-clause-stop
returns-in-Err-accept-clause-stop g c =
    subst (λ (r : Refusal). GivesByPlan c.args.target c.args.codelets.now (map (atom_form g.T.AtomTemplate.trees_of) c.args.atoms.now.list) c.args.text.now (found (Err r))) (sym c.plan_refusal.ensures)
    (faulty c.args.target c.args.codelets.now (map (atom_form g.T.AtomTemplate.trees_of) c.args.atoms.now.list) c.args.text.now (shape_with g.T.AtomTemplate.fits g.T.AtomTemplate.CONST_BITS g.row.DEPTH g.row.SL g.row.SF (not (nat_eq g.row.MUL 0))) c.requires.shape c.in-Ok.plan c.in-Ok.ensures.plan c.in-Err-accept.fault c.in-Err-accept.ensures.exact)

pub returns-clause-written : goal.returns-clause-written
returns-clause-written g c =
    lawful c.args.target c.args.codelets.now (map (atom_form g.T.AtomTemplate.trees_of) c.args.atoms.now.list) c.args.text.now (shape_with g.T.AtomTemplate.fits g.T.AtomTemplate.CONST_BITS g.row.DEPTH g.row.SL g.row.SF (not (nat_eq g.row.MUL 0))) c.requires.shape c.in-Ok.plan c.in-Ok.ensures.plan
    c.in_ok-write_config.field-0.items c.in_ok-config.config c.in_default.ensures.exact c.in_ok-write_config.ensures.text c.in_ok-config.ensures.parts
