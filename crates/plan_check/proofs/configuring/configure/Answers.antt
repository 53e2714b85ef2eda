use Rattle.std.proofs.Common.{◌≡◌, List, map, nat_eq, not, refl, ap, ◌∙◌, rules, subst}
use Rattle.stage_plan.specs.declared.place.Place.{Place}
use Rattle.atom_match.specs.Atoms.{atom_form}
use Rattle.banzai_config.specs.Checked.{shape_with}
use Rattle.banzai_config.specs.Legal.{LegalFor}
use Rattle.banzai_config.specs.Parts.{PartsForm}
use Rattle.compile_law.specs.Compiled.{compiled_parts}
use Rattle.plan_check.specs.Placed.{placed}
use Rattle.plan_check.proofs.Sharing.{shared_of}
use Rattle.plan_check.proofs.configuring.configure.Goals as goal

pub returns-clause-parts : goal.returns-clause-parts
returns-clause-parts g c =
    let same : c.in_ok-stages.stages ≡ c.args.plan.now = search rules in
    c.in_ok-share.ensures.parts
    ∙ shared_of c.in_ok-config.config (compiled_parts c.args.codelets.now g.row.DEPTH (map (atom_form g.T.AtomTemplate.trees_of) c.args.atoms.now.list) c.in_ok-stages.stages) c.in_ok-config.ensures.parts refl
    ∙ ap (λ (ps : List Place). placed c.args.codelets.now g.row.DEPTH (map (atom_form g.T.AtomTemplate.trees_of) c.args.atoms.now.list) ps) same

pub returns-clause-legal : goal.returns-clause-legal
returns-clause-legal g c =
    let same : c.in_ok-stages.stages ≡ c.args.plan.now = search rules in
    subst (λ (p : PartsForm). LegalFor (shape_with g.T.AtomTemplate.fits g.T.AtomTemplate.CONST_BITS g.row.DEPTH g.row.SL g.row.SF (not (nat_eq g.row.MUL 0))) p)
    (shared_of c.in_ok-config.config (compiled_parts c.args.codelets.now g.row.DEPTH (map (atom_form g.T.AtomTemplate.trees_of) c.args.atoms.now.list) c.in_ok-stages.stages) c.in_ok-config.ensures.parts refl
    ∙ ap (λ (ps : List Place). placed c.args.codelets.now g.row.DEPTH (map (atom_form g.T.AtomTemplate.trees_of) c.args.atoms.now.list) ps) same)
    c.in_ok-share.ensures.legal
