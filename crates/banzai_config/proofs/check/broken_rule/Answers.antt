use Rattle.std.proofs.Common.{ℕ, ◌+◌, [], List, Option, length, map, sym, ap, ◌∙◌, arith}
use Rattle.std.specs.List.{flat_map}
use Rattle.std.specs.Option.{option_or}
use Rattle.std.proofs.lemmas.Bool.{eq-eqb, ne_eqb}
use Rattle.std.proofs.lemmas.List.{length-map}
use Rattle.banzai_config.specs.declared.parts.StageParts.{StageParts}
use Rattle.banzai_config.specs.declared.walk.BrokenPlace.{BrokenPlace}
use Rattle.banzai_config.specs.Checked.{outputs_say, says_if}
use Rattle.banzai_config.specs.Judged.{shape_in}
use Rattle.banzai_config.specs.Legal.{Sizes, sizes_of}
use Rattle.banzai_config.specs.Named.{stage_targets}
use Rattle.banzai_config.specs.Parts.{parts_form, stage_form}
use Rattle.banzai_config.specs.Walked.{first_of}
use Rattle.banzai_config.proofs.Broken.{depth_broken, rest_broken}
use Rattle.banzai_config.proofs.Fits.{fit_of}
use Rattle.banzai_config.proofs.check.broken_rule.Goals as goal

pub returns-then-depth-limits-clause-rule : goal.returns-then-depth-limits-clause-rule
returns-then-depth-limits-clause-rule g c = sym (depth_broken (shape_in g.T.AtomTemplate.fits g.T.AtomTemplate.CONST_BITS c.args.limits) (parts_form c.args.parts.now) c.requires.head (ne_eqb (length (map stage_form c.args.parts.now.stages)) c.args.limits.depth (λ e. c.if-depth-limits.true (c.len-depth.ensures ∙ sym (length-map c.args.parts.now.stages stage_form) ∙ e))))

pub returns-in-Some-clause-rule : goal.returns-in-Some-clause-rule
returns-in-Some-clause-rule g c =
    let p = parts_form c.args.parts.now in
    let z = λ (x : Sizes). first_of (shape_in g.T.AtomTemplate.fits g.T.AtomTemplate.CONST_BITS c.args.limits) x [] (map stage_form c.as_slice-stages.result.now) in
    let first = λ (xs : List StageParts). first_of (shape_in g.T.AtomTemplate.fits g.T.AtomTemplate.CONST_BITS c.args.limits) (sizes_of p) [] (map stage_form xs) in
    let rest = outputs_say (c.args.limits.depth + 1) (sizes_of p) (flat_map stage_targets p.stages) p.outputs in
    sym (rest_broken (shape_in g.T.AtomTemplate.fits g.T.AtomTemplate.CONST_BITS c.args.limits) p c.requires.head (eq-eqb (length (map stage_form c.args.parts.now.stages)) c.args.limits.depth (length-map c.args.parts.now.stages stage_form ∙ sym c.len-depth.ensures ∙ c.if-depth-limits.false))
    ∙ ap (λ (x : Option BrokenPlace). option_or (says_if x) rest)
    (sym (ap first c.as_slice-stages.ensures) ∙ sym (ap z c.frame_of-frame.ensures.sizes) ∙ sym c.in_ok-place.ensures.first ∙ c.in-Some.is))

pub returns-clause-rule : goal.returns-clause-rule
returns-clause-rule g c =
    let p = parts_form c.args.parts.now in
    let z = λ (x : Sizes). first_of (shape_in g.T.AtomTemplate.fits g.T.AtomTemplate.CONST_BITS c.args.limits) x [] (map stage_form c.as_slice-stages.result.now) in
    let first = λ (xs : List StageParts). first_of (shape_in g.T.AtomTemplate.fits g.T.AtomTemplate.CONST_BITS c.args.limits) (sizes_of p) [] (map stage_form xs) in
    let rest = outputs_say (c.args.limits.depth + 1) (sizes_of p) (flat_map stage_targets p.stages) p.outputs in
    let known = (c.in_ok-place.ensures.seen c.in-None.is).known ∙ ap (λ (xs : List StageParts). flat_map stage_targets (map stage_form xs)) c.as_slice-stages.ensures in
    c.broken_output-found.ensures
    ∙ ap (λ (x : Sizes). outputs_say (c.args.limits.depth + 1) x c.walk_stages.new.seen.known.numbers c.as_slice-outputs.result.now) c.frame_of-frame.ensures.sizes
    ∙ ap (λ (x : List ℕ). outputs_say (c.args.limits.depth + 1) (sizes_of p) x c.as_slice-outputs.result.now) known
    ∙ ap (outputs_say (c.args.limits.depth + 1) (sizes_of p) (flat_map stage_targets p.stages)) c.as_slice-outputs.ensures
    ∙ sym (rest_broken (shape_in g.T.AtomTemplate.fits g.T.AtomTemplate.CONST_BITS c.args.limits) p c.requires.head (eq-eqb (length (map stage_form c.args.parts.now.stages)) c.args.limits.depth (length-map c.args.parts.now.stages stage_form ∙ sym c.len-depth.ensures ∙ c.if-depth-limits.false))
    ∙ ap (λ (x : Option BrokenPlace). option_or (says_if x) rest)
    (sym (ap first c.as_slice-stages.ensures) ∙ sym (ap z c.frame_of-frame.ensures.sizes) ∙ sym c.in_ok-place.ensures.first ∙ c.in-None.is))

pub returns-clause-fits : goal.returns-clause-fits
returns-clause-fits g c =
    λ none.
    let p = parts_form c.args.parts.now in
    let z = λ (x : Sizes). first_of (shape_in g.T.AtomTemplate.fits g.T.AtomTemplate.CONST_BITS c.args.limits) x [] (map stage_form c.as_slice-stages.result.now) in
    let first = λ (xs : List StageParts). first_of (shape_in g.T.AtomTemplate.fits g.T.AtomTemplate.CONST_BITS c.args.limits) (sizes_of p) [] (map stage_form xs) in
    fit_of (shape_in g.T.AtomTemplate.fits g.T.AtomTemplate.CONST_BITS c.args.limits) (sizes_of p) [] p.stages
    (sym (ap first c.as_slice-stages.ensures) ∙ sym (ap z c.frame_of-frame.ensures.sizes) ∙ sym c.in_ok-place.ensures.first ∙ c.in-None.is)

pub returns-clause-few : goal.returns-clause-few
returns-clause-few g c = λ none. omega (arith, c.len-depth.ensures, c.if-depth-limits.false, c.requires.depth)
