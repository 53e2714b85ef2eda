use Rattle.std.proofs.Common.{ℕ, None, Some, sym, ap, ◌∙◌}
use Rattle.plan_check.specs.declared.fault.HandFault.TheVariants.{Early}
use Rattle.plan_check.proofs.Accepted.{early_by, uses_within}
use Rattle.plan_check.proofs.accepting.early_at.Goals as goal

pub first_late-requires : goal.first_late-requires
first_late-requires c =
    uses_within c.args.codelets.now c.args.places.now c.args.k c.codelet_at-codelet.result.now c.as_slice.result.now c.requires.leveled c.requires.within c.requires.places c.codelet_at-codelet.ensures c.as_slice.ensures

pub returns-in-None : goal.returns-in-None
returns-in-None c =
    sym (early_by c.args.codelets.now c.args.places.now c.args.k c.codelet_at-codelet.result.now c.stage_of.result c.as_slice.result.now None c.codelet_at-codelet.ensures c.stage_of.ensures c.as_slice.ensures c.in-None.ensures.value)

pub returns-in-Some : goal.returns-in-Some
returns-in-Some c =
    ap (λ (n : ℕ). Some (Early c.codelet_at-codelet.result.now.first n)) c.number_of.ensures
    ∙ sym (early_by c.args.codelets.now c.args.places.now c.args.k c.codelet_at-codelet.result.now c.stage_of.result c.as_slice.result.now (Some c.in-Some.used) c.codelet_at-codelet.ensures c.stage_of.ensures c.as_slice.ensures c.in-Some.ensures.value)
