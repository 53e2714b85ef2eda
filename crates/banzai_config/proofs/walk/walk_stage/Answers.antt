use Rattle.std.proofs.Common.{◌≡◌, [], List, sym, ap, subst, ◌∙◌}
use Rattle.banzai_config.specs.Judged.{shape_in, sizes_in}
use Rattle.banzai_config.specs.Parts.{Atom, stage_form}
use Rattle.banzai_config.specs.Walked.{IsSeen, first_in}
use Rattle.banzai_config.proofs.Walking.{seen_stage, stage_atoms}
use Rattle.banzai_config.proofs.walk.walk_stage.Goals as goal

pub returns-in-Some-clause-first : goal.returns-in-Some-clause-first
returns-in-Some-clause-first g c =
    λ stages is.
    sym c.in-Some.is ∙ c.in_ok-broken.ensures.first stages is
    ∙ ap (first_in (shape_in g.T.AtomTemplate.fits g.T.AtomTemplate.CONST_BITS c.args.limits) (sizes_in c.args.frame) stages []) (stage_atoms c.args.stage.now c.as_slice-ops.result.now c.as_slice-trees.result.now c.as_slice-ops.ensures c.as_slice-trees.ensures)

pub returns-clause-first : goal.returns-clause-first
returns-clause-first g c =
    λ stages is.
    sym c.in-None.is ∙ c.in_ok-broken.ensures.first stages is
    ∙ ap (first_in (shape_in g.T.AtomTemplate.fits g.T.AtomTemplate.CONST_BITS c.args.limits) (sizes_in c.args.frame) stages []) (stage_atoms c.args.stage.now c.as_slice-ops.result.now c.as_slice-trees.result.now c.as_slice-ops.ensures c.as_slice-trees.ensures)

pub returns-clause-seen : goal.returns-clause-seen
returns-clause-seen g c =
    λ none stages is.
    let P : List Atom → Type 0 = λ atoms. IsSeen stages atoms c.walk_atoms.new.seen in
    seen_stage stages (stage_form c.args.stage.now) c.walk_atoms.new.seen c.end_stage.new.seen
    (subst P (stage_atoms c.args.stage.now c.as_slice-ops.result.now c.as_slice-trees.result.now c.as_slice-ops.ensures c.as_slice-trees.ensures) (c.in_ok-broken.ensures.seen c.in-None.is stages is))
    c.in_ok-end_stage.ensures.ended
