use Rattle.std.proofs.Common.{◌≡◌, ◌+◌, [], List, Some, None, map, take, sym, ap, subst, ◌∙◌}
use Rattle.banzai_config.specs.Judged.{shape_in, sizes_in}
use Rattle.banzai_config.specs.Parts.{StageForm, stage_form}
use Rattle.banzai_config.specs.Walked.{IsSeen}
use Rattle.banzai_config.proofs.Walking.{stage_turn, stages_more}
use Rattle.banzai_config.proofs.walk.walk_stages.Goals as goal

pub returns-in-Some-clause-first : goal.returns-in-Some-clause-first
returns-in-Some-clause-first g c =
    sym (c.loop-k.invariant.found
    ∙ stage_turn c.args.stages.now c.loop-k.k c.index-stages-k.result c.loop-k-test.true c.index-stages-k.is (shape_in g.T.AtomTemplate.fits g.T.AtomTemplate.CONST_BITS c.args.limits) (sizes_in c.args.frame) (Some c.in-Some.broken)
    (sym c.in-Some.is ∙ c.in_ok-broken.ensures.first (map stage_form (take c.loop-k.k c.args.stages.now)) c.loop-k.invariant.seen))

pub loop-k-preserved : goal.loop-k-preserved
loop-k-preserved g c =
    let P : List StageForm → Type 0 = λ stages. IsSeen stages [] c.walk_stage.new.seen in
    record {
      room = c.walk_stage.ensures.room;
      seen =
          subst P (sym (stages_more c.args.stages.now c.loop-k.k c.index-stages-k.result c.loop-k-test.true c.index-stages-k.is))
          (c.in_ok-broken.ensures.seen c.in-None.is (map stage_form (take c.loop-k.k c.args.stages.now)) c.loop-k.invariant.seen);
      found =
          c.loop-k.invariant.found
          ∙ stage_turn c.args.stages.now c.loop-k.k c.index-stages-k.result c.loop-k-test.true c.index-stages-k.is (shape_in g.T.AtomTemplate.fits g.T.AtomTemplate.CONST_BITS c.args.limits) (sizes_in c.args.frame) None
          (sym c.in-None.is ∙ c.in_ok-broken.ensures.first (map stage_form (take c.loop-k.k c.args.stages.now)) c.loop-k.invariant.seen);
    }
