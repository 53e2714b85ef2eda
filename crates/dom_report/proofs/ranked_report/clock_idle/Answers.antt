use Rattle.std.proofs.Common.{◌∙◌, arith}
use Rattle.dom_report.proofs.RankedRuns.{idle_over, idle_part}
use Rattle.dom_report.proofs.ranked_report.clock_idle.Goals as goal

pub returns-in_default-clause-part : goal.returns-in_default-clause-part
returns-in_default-clause-part g c =
    idle_part (g.H.HashUnits.meaning c.args.hash.now) c.args.every c.args.ranked.now c.loop-done.ranked c.args.progress.now c.loop-done.progress (g.S.Sink.held c.args.sink.now) (g.S.Sink.held c.loop-done.sink)
    (g.S.Sink.held c.clock_once.new.sink) c.loop-done._done c.args.count c.loop-done-test.true c.loop-done.invariant.over c.in_default.ensures.part

pub loop-done-preserved : goal.loop-done-preserved
loop-done-preserved g c = record {
  over =
      idle_over (g.H.HashUnits.meaning c.args.hash.now) c.args.every c.args.ranked.now c.loop-done.ranked c.clock_once.new.ranked c.args.progress.now c.loop-done.progress c.clock_once.new.progress
      (g.S.Sink.held c.args.sink.now) (g.S.Sink.held c.loop-done.sink) (g.S.Sink.held c.clock_once.new.sink) c.loop-done._done c.loop-done.invariant.over c.in-Ok.ensures.over;
  can = c.in-Ok.ensures.can;
  count = c.in-Ok.ensures.cause.kept ∙ c.loop-done.invariant.count;
  config = c.in-Ok.ensures.config ∙ c.loop-done.invariant.config;
  same = c.in-Ok.ensures.same ∙ c.loop-done.invariant.same;
}
