use Rattle.std.proofs.Common.{◌∙◌}
use Rattle.stage_plan.proofs.Levels.{item_at, showable, uses_within, fault_at, next_so_far}
use Rattle.stage_plan.proofs.planning.place_all.Goals as goal

pub place_one-requires-clause-uses : goal.place_one-requires-clause-uses
place_one-requires-clause-uses c = uses_within c.args.depth c.args.sl c.args.sf c.args.codelets.now c.codelets.c-index c.codelets.board.placed.items c.c-item.result c.requires.leveled c.codelets.invariant.so_far (item_at c.args.codelets.now c.codelets.c-index c.c-item.result c.codelets-test.true c.c-item.is)

pub place_one-requires-clause-shown : goal.place_one-requires-clause-shown
place_one-requires-clause-shown c = rw c.codelets.invariant.depth (showable c.args.depth c.args.sl c.args.sf c.args.codelets.now c.codelets.c-index c.codelets.board.placed.items c.c-item.result c.requires.leveled c.requires.shallow c.codelets.invariant.so_far (item_at c.args.codelets.now c.codelets.c-index c.c-item.result c.codelets-test.true c.c-item.is))

pub returns-in-Err-clause-err : goal.returns-in-Err-clause-err
returns-in-Err-clause-err c = fault_at c.args.depth c.args.sl c.args.sf c.args.codelets.now c.codelets.c-index c.codelets.board.placed.items c.c-item.result c.in-Err.fault c.codelets.invariant.so_far (item_at c.args.codelets.now c.codelets.c-index c.c-item.result c.codelets-test.true c.c-item.is) (rw c.codelets.invariant.depth at c.in-Err.ensures.err)

pub codelets-preserved : goal.codelets-preserved
codelets-preserved c = record {
  counted = c.in-Ok.ensures.counted;
  depth = c.place_one.ensures.depth ∙ c.codelets.invariant.depth;
  so_far = next_so_far c.args.depth c.args.sl c.args.sf c.args.codelets.now c.codelets.c-index c.codelets.board.placed.items c.place_one.new.board.placed.items c.c-item.result c.requires.leveled c.requires.shallow c.codelets.invariant.so_far (item_at c.args.codelets.now c.codelets.c-index c.c-item.result c.codelets-test.true c.c-item.is) (rw c.codelets.invariant.depth at c.in-Ok.ensures.ok);
}
