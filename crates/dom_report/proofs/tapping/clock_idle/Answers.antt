use Rattle.std.proofs.Common.{◌+◌, ◌∙◌, refl}
use Rattle.dom_report.proofs.TappedRuns.{idle_part, idle_tapped}
use Rattle.dom_report.proofs.tapping.clock_idle.Goals as goal

pub returns-in_default-clause-part : goal.returns-in_default-clause-part
returns-in_default-clause-part g c =
    idle_part (g.H.HashUnits.meaning c.args.hash.now) _ _ _ (g.S.Sink.held c.loop-done.sink) (g.S.Sink.held c.clock_once.new.sink) c.args.number (c.args.number + c.loop-done.done) c.loop-done.done c.args.count
    c.loop-done-test.true refl c.loop-done.invariant.clocked c.in_default.ensures.part

pub loop-done-preserved : goal.loop-done-preserved
loop-done-preserved g c = record {
  clocked =
      idle_tapped (g.H.HashUnits.meaning c.args.hash.now) _ _ _ _ (g.S.Sink.held c.loop-done.sink) (g.S.Sink.held c.clock_once.new.sink) c.args.number (c.args.number + c.loop-done.done) c.loop-done.done refl
      c.loop-done.invariant.clocked c.in-Ok.ensures.clocked;
  count = c.in-Ok.ensures.cause.kept ∙ c.loop-done.invariant.count;
  config = c.in-Ok.ensures.config ∙ c.loop-done.invariant.config;
  size = c.in-Ok.ensures.size ∙ c.loop-done.invariant.size;
  same = c.in-Ok.ensures.same ∙ c.loop-done.invariant.same;
}
