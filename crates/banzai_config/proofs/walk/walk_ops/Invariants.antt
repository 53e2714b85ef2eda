use Rattle.std.proofs.Common.{◌≡◌, ◌≤◌, List, [], drop, take}
use Rattle.banzai_config.specs.Judged.{HasRoom, shape_in, sizes_in}
use Rattle.banzai_config.specs.Parts.{StageForm}
use Rattle.banzai_config.specs.Walked.{IsSeen, first_in, op_atoms}
use Rattle.banzai_config.proofs.walk.walk_ops.Given as goal

abbrev pub invariant-loop-place : goal.invariant-loop-place
invariant-loop-place g l = record {
  room : HasRoom l.frame l.seen;
  few : l.place ≤ l.limits.stateless;
  seen : (stages : List StageForm) → IsSeen stages [] l.fn.seen → IsSeen stages (op_atoms (take l.place l.atoms)) l.seen;
  first : (stages : List StageForm) → IsSeen stages [] l.fn.seen
      → first_in (shape_in g.T.AtomTemplate.fits g.T.AtomTemplate.CONST_BITS l.limits) (sizes_in l.frame) stages [] (op_atoms l.atoms)
      ≡ first_in (shape_in g.T.AtomTemplate.fits g.T.AtomTemplate.CONST_BITS l.limits) (sizes_in l.frame) stages (op_atoms (take l.place l.atoms)) (op_atoms (drop l.place l.atoms));
}
