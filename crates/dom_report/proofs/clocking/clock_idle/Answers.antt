use Rattle.std.proofs.Common.{◌+◌, ◌∙◌, refl}
use Rattle.dom_report.proofs.Cycles.{idle_more, idle_stop}
use Rattle.dom_report.proofs.clocking.clock_idle.Goals as goal

pub returns-in_default-clause-stopped : goal.returns-in_default-clause-stopped
returns-in_default-clause-stopped g c =
    idle_stop g.A.EachCycle.bytes g.A.EachCycle.after (g.H.HashUnits.meaning c.args.hash.now) (g.M.Clocked.machine c.args.machine.now) (g.M.Clocked.machine c.loop-done.machine) (g.M.Clocked.machine c.clock_once.new.machine)
    c.args.action.now c.loop-done.action _ _ (g.S.Sink.held c.clock_once.new.sink) c.args.number (c.args.number + c.loop-done.done) c.loop-done.done c.args.count c.loop-done-test.true refl
    c.loop-done.invariant.clocked c.in_default.ensures.stopped

pub loop-done-preserved : goal.loop-done-preserved
loop-done-preserved g c = record {
  clocked =
      idle_more g.A.EachCycle.bytes g.A.EachCycle.after (g.H.HashUnits.meaning c.args.hash.now) (g.M.Clocked.machine c.args.machine.now) (g.M.Clocked.machine c.loop-done.machine) (g.M.Clocked.machine c.clock_once.new.machine)
      c.args.action.now c.loop-done.action c.clock_once.new.action _ _ (g.S.Sink.held c.clock_once.new.sink) c.args.number (c.args.number + c.loop-done.done) c.loop-done.done refl
      c.loop-done.invariant.clocked c.in-Ok.ensures.clocked;
  count = c.in-Ok.ensures.cause.kept ∙ c.loop-done.invariant.count;
  config = c.in-Ok.ensures.config ∙ c.loop-done.invariant.config;
  fits = rw c.loop-done.invariant.config at c.in-Ok.ensures.fits;
  size = c.in-Ok.ensures.size ∙ c.loop-done.invariant.size;
}
