use Rattle.std.proofs.Common.{◌≡◌}
use Rattle.stage_plan.specs.Board.{IsCounted, SoFar}
use Rattle.stage_plan.proofs.planning.place_all.Given as goal

abbrev pub invariant-codelets : goal.invariant-codelets
invariant-codelets l = record {
  counted : IsCounted l.board;
  depth : l.board.depth ≡ l.depth;
  so_far : SoFar l.depth l.sl l.sf l.codelets l.c-index l.board.placed.items;
}
