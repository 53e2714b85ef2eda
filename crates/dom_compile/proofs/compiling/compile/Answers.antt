use Rattle.std.proofs.Common.{nat_eq, not, map, refl, subst, sym, ◌∙◌}
use Rattle.atom_match.specs.Atoms.{atom_form}
use Rattle.banzai_config.specs.Checked.{shape_with}
use Rattle.banzai_config.specs.Legal.{LegalFor}
use Rattle.banzai_config.specs.Parts.{PartsForm}
use Rattle.dom_compile.specs.Answer.{IsCompileFault}
use Rattle.dom_compile.specs.Layers.{of_plan}
use Rattle.dom_compile.proofs.Causes.{plan_cause, whole_cause}
use Rattle.dom_compile.proofs.Listed.{renamed_cause}
use Rattle.compile_law.specs.Compiled.{compiled_parts}
use Rattle.dom_compile.proofs.Names.{arrays_named, fields_named}
use Rattle.dom_compile.proofs.Sharing.{shared_of}
use Rattle.dom_compile.proofs.compiling.compile.Goals as goal

pub returns-in_err-codelets-clause-refused : goal.returns-in_err-codelets-clause-refused
returns-in_err-codelets-clause-refused g c =
    let s = shape_with g.T.AtomTemplate.fits g.T.AtomTemplate.CONST_BITS g.row.DEPTH g.row.SL g.row.SF (not (nat_eq g.row.MUL 0)) in
    renamed_cause c.from_residual.result (λ fault. IsCompileFault s c.args.text.now fault)
    c.in_err-codelets.field-0.0 c.from_residual.ensures.1
    (whole_cause s c.args.text.now c.in_err-codelets.field-0.0 c.in_err-codelets.ensures.refused)

pub returns-in_err-stages-clause-refused : goal.returns-in_err-stages-clause-refused
returns-in_err-stages-clause-refused g c =
    let s = shape_with g.T.AtomTemplate.fits g.T.AtomTemplate.CONST_BITS g.row.DEPTH g.row.SL g.row.SF (not (nat_eq g.row.MUL 0)) in
    renamed_cause c.from_residual-in_err-stages.result (λ fault. IsCompileFault s c.args.text.now fault)
    (of_plan c.in_err-stages.field-0.0) c.from_residual-in_err-stages.ensures.1
    (plan_cause s c.args.text.now c.in_ok-codelets.codelets c.in_ok-codelets.ensures.fitted c.in_err-stages.field-0.0 c.in_err-stages.ensures.fault)

pub configured-requires-clause-fields : goal.configured-requires-clause-fields
configured-requires-clause-fields g c = fields_named c.args.text.now c.in_ok-codelets.codelets.flat c.in_ok-codelets.ensures.fitted.listed

pub configured-requires-clause-arrays : goal.configured-requires-clause-arrays
configured-requires-clause-arrays g c = arrays_named c.args.text.now c.in_ok-codelets.codelets.flat c.in_ok-codelets.ensures.fitted.listed

pub returns-clause-config : goal.returns-clause-config
returns-clause-config g c =
    let s = shape_with g.T.AtomTemplate.fits g.T.AtomTemplate.CONST_BITS g.row.DEPTH g.row.SL g.row.SF (not (nat_eq g.row.MUL 0)) in (
      c.in_ok-codelets.codelets,
      c.in_ok-codelets.ensures.fitted,
      record {
        atoms = map (atom_form g.T.AtomTemplate.trees_of) c.in_ok-codelets.atoms.list;
        places = c.in_ok-stages.stages;
        atoms_are = c.in_ok-codelets.ensures.atoms;
        shallow = c.in_ok-stages.ensures.shallow;
        placed = c.in_ok-stages.ensures.schedule;
        unshared = c.in_ok-config.ensures.legal;
        parts_are = c.in_ok-share.ensures.parts ∙ shared_of c.in_ok-config.config (compiled_parts c.in_ok-codelets.codelets g.row.DEPTH (map (atom_form g.T.AtomTemplate.trees_of) c.in_ok-codelets.atoms.list) c.in_ok-stages.stages) c.in_ok-config.ensures.parts refl;
        legal = subst (λ (p : PartsForm). LegalFor s p) (sym c.in_ok-share.ensures.parts) c.in_ok-share.ensures.legal;
      },
    )
