use Rattle.std.proofs.Common.{◌≡◌, ◌≤◌, ◌++◌, List, drop, take, length}
use Rattle.banzai_config.specs.declared.parts.OpAtom.{OpAtom}
use Rattle.banzai_config.specs.Judged.{HasRoom, shape_in, sizes_in}
use Rattle.banzai_config.specs.Parts.{StageForm}
use Rattle.banzai_config.specs.Walked.{IsSeen, first_in, op_atoms, tree_atoms}
use Rattle.banzai_config.proofs.walk.walk_trees.Given as goal

abbrev pub invariant-loop-place : goal.invariant-loop-place
invariant-loop-place g l = record {
  room : HasRoom l.frame l.seen;
  few : l.place ≤ l.limits.stateful;
  seen : (stages : List StageForm) (ops : List OpAtom) → length ops ≡ l.first → IsSeen stages (op_atoms ops) l.fn.seen → IsSeen stages (op_atoms ops ++ tree_atoms (take l.place l.atoms)) l.seen;
  found : (stages : List StageForm) (ops : List OpAtom) → length ops ≡ l.first → IsSeen stages (op_atoms ops) l.fn.seen
      → first_in (shape_in g.T.AtomTemplate.fits g.T.AtomTemplate.CONST_BITS l.limits) (sizes_in l.frame) stages (op_atoms ops) (tree_atoms l.atoms)
      ≡ first_in (shape_in g.T.AtomTemplate.fits g.T.AtomTemplate.CONST_BITS l.limits) (sizes_in l.frame) stages (op_atoms ops ++ tree_atoms (take l.place l.atoms)) (tree_atoms (drop l.place l.atoms));
}
