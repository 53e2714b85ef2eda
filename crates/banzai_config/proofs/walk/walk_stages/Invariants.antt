use Rattle.std.proofs.Common.{◌≡◌, [], drop, map, take}
use Rattle.banzai_config.specs.Judged.{HasRoom, shape_in, sizes_in}
use Rattle.banzai_config.specs.Parts.{stage_form}
use Rattle.banzai_config.specs.Walked.{IsSeen, first_of}
use Rattle.banzai_config.proofs.walk.walk_stages.Given as goal

abbrev pub invariant-loop-k : goal.invariant-loop-k
invariant-loop-k g l = record {
  room : HasRoom l.frame l.seen;
  seen : IsSeen (map stage_form (take l.k l.stages)) [] l.seen;
  found : first_of (shape_in g.T.AtomTemplate.fits g.T.AtomTemplate.CONST_BITS l.limits) (sizes_in l.frame) [] (map stage_form l.stages)
      ≡ first_of (shape_in g.T.AtomTemplate.fits g.T.AtomTemplate.CONST_BITS l.limits) (sizes_in l.frame) (map stage_form (take l.k l.stages)) (map stage_form (drop l.k l.stages));
}
