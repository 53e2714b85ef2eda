use Rattle.std.proofs.Common.{◌≡◌, Bool, not, nat_eq, ap, sym, ◌∙◌}
use Rattle.banzai_config.specs.declared.parts.Version.{Version}
use Rattle.banzai_config.specs.Checked.{shape_with}
use Rattle.banzai_config.specs.Legal.{Shape}
use Rattle.banzai_config.specs.Parts.{PartsForm, parts_form}
use Rattle.container_plan.specs.Shared.{shared, shared_by}
use Rattle.container_plan.proofs.Ready.{not_refused}
use Rattle.container_plan.proofs.sharing.share.Goals as goal

pub returns-in-Ok-clause-parts : goal.returns-in-Ok-clause-parts
returns-in-Ok-clause-parts g c =
    c.in-Ok.ensures.parts ∙ c.in_ok-parts-in-One-2.ensures ∙ ap (λ (p : PartsForm). shared p) c.in_ok-parts-in-One.ensures
    ∙ ap (λ (v : Version). shared_by v c.args.config) (c.in-One.ensures)

pub unreachable-requires : goal.unreachable-requires
unreachable-requires g c =
    let multiplies : Bool = not (nat_eq g.row.MUL 0) in
    let s : Shape = shape_with g.T.AtomTemplate.fits g.T.AtomTemplate.CONST_BITS g.row.DEPTH g.row.SL g.row.SF multiplies in
    let same : parts_form c.in_ok-parts-in-One-2.parts ≡ shared c.args.config = c.in_ok-parts-in-One-2.ensures ∙ ap (λ (p : PartsForm). shared p) c.in_ok-parts-in-One.ensures in
    not_refused s (parts_form c.in_ok-parts-in-One-2.parts) (shared c.args.config) c.in-Err-Refused.field-0 c.in-Err-Refused.field-0-0 c.in-Err-Refused.field-0-1 c.in-Err-Refused.field-0-2
    (c.shared_is_legal.ensures g.row.DEPTH g.row.SL g.row.SF multiplies c.args.config c.requires.legal (sym c.in-One.ensures)) same c.in-Err-Refused.field-0-is c.in-Err-Refused.ensures.fault
