use Rattle.std.proofs.Common.{◌≡◌, ℕ, Bool, not, nat_eq, List, IfOk, ap, ◌∙◌, subst, arith}
use Rattle.std.specs.Prelude.{slice_index}
use Rattle.banzai_config.specs.Checked.{shape_with}
use Rattle.banzai_config.specs.Parts.{PartsForm, parts_form}
use Rattle.container_plan.proofs.Ready.{containers_small, names_small, shared_is, short}
use Rattle.container_plan.proofs.sharing.shared_parts.Goals as goal

pub plan-requires-clause-short : goal.plan-requires-clause-short
plan-requires-clause-short g c =
    let multiplies : Bool = not (nat_eq g.row.MUL 0) in
    short (shape_with g.T.AtomTemplate.fits g.T.AtomTemplate.CONST_BITS g.row.DEPTH g.row.SL g.row.SF multiplies) (parts_form c.args.parts) c.requires.legal c.requires.version

pub narrowed-requires : goal.narrowed-requires
narrowed-requires g c v =
    let multiplies : Bool = not (nat_eq g.row.MUL 0) in
    omega (
      arith,
      ap (λ (xs : List ℕ). slice_index xs v) c.deref.ensures.value,
      names_small (shape_with g.T.AtomTemplate.fits g.T.AtomTemplate.CONST_BITS g.row.DEPTH g.row.SL g.row.SF multiplies) (parts_form c.args.parts) c.requires.legal c.requires.version c.in-Ok.plan.names.items c.in-Ok.ensures.0 v,
    )

pub overflow_cast-containers : goal.overflow_cast-containers
overflow_cast-containers g c =
    let multiplies : Bool = not (nat_eq g.row.MUL 0) in
    omega (
      arith,
      c.in-Ok.ensures.1,
      containers_small (shape_with g.T.AtomTemplate.fits g.T.AtomTemplate.CONST_BITS g.row.DEPTH g.row.SL g.row.SF multiplies) (parts_form c.args.parts) c.requires.legal c.requires.version,
    )

pub returns : goal.returns
returns g c =
    subst (λ (q : PartsForm). IfOk c.named_parts.result (λ new. parts_form new ≡ q))
    (shared_is (parts_form c.args.parts) c.in-Ok.plan.names.items c.deref-2.result.now c.in-Ok.plan.containers c.in-Ok.ensures.0 (c.deref-2.ensures.value ∙ c.in-Ok-narrowed.ensures ∙ c.deref.ensures.value) c.in-Ok.ensures.1)
    c.named_parts.ensures
