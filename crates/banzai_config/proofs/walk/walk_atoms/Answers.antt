use Rattle.std.proofs.Common.{◌≡◌, [], Option, refl, sym, ap, ◌∙◌}
use Rattle.std.specs.Option.{option_or}
use Rattle.banzai_config.specs.declared.walk.BrokenAtom.{BrokenAtom}
use Rattle.banzai_config.specs.Judged.{shape_in, sizes_in}
use Rattle.banzai_config.specs.Walked.{first_in, op_atoms, tree_atoms}
use Rattle.banzai_config.proofs.Walking.{first_both}
use Rattle.banzai_config.proofs.walk.walk_atoms.Goals as goal

pub returns-in-Some-clause-first : goal.returns-in-Some-clause-first
returns-in-Some-clause-first g c =
    λ stages is.
    sym (first_both (shape_in g.T.AtomTemplate.fits g.T.AtomTemplate.CONST_BITS c.args.limits) (sizes_in c.args.frame) stages [] (op_atoms c.args.ops.now) (tree_atoms c.args.trees.now)
    ∙ ap (λ (x : Option BrokenAtom). option_or x (first_in (shape_in g.T.AtomTemplate.fits g.T.AtomTemplate.CONST_BITS c.args.limits) (sizes_in c.args.frame) stages (op_atoms c.args.ops.now) (tree_atoms c.args.trees.now))) (sym (c.in_ok-op.ensures.first stages is) ∙ c.in-Some.is))

pub returns-clause-first : goal.returns-clause-first
returns-clause-first g c =
    λ stages is.
    c.in_ok-found.ensures.first stages c.args.ops.now refl (c.in_ok-op.ensures.seen c.in-None.is stages is)
    ∙ sym (first_both (shape_in g.T.AtomTemplate.fits g.T.AtomTemplate.CONST_BITS c.args.limits) (sizes_in c.args.frame) stages [] (op_atoms c.args.ops.now) (tree_atoms c.args.trees.now)
    ∙ ap (λ (x : Option BrokenAtom). option_or x (first_in (shape_in g.T.AtomTemplate.fits g.T.AtomTemplate.CONST_BITS c.args.limits) (sizes_in c.args.frame) stages (op_atoms c.args.ops.now) (tree_atoms c.args.trees.now))) (sym (c.in_ok-op.ensures.first stages is) ∙ c.in-None.is))

pub returns-clause-seen : goal.returns-clause-seen
returns-clause-seen g c = λ none stages is. c.in_ok-found.ensures.seen none stages c.args.ops.now refl (c.in_ok-op.ensures.seen c.in-None.is stages is)
