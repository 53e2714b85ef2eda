use Rattle.std.proofs.Common.{◌≡◌, ◌∙◌, arith, length, refl}
use Rattle.dom_report.proofs.WatchParts.{touch_more, touch_stop, touches_all}
use Rattle.dom_report.proofs.moment.put_touches.Goals as goal

pub returns-in_default-clause-bytes : goal.returns-in_default-clause-bytes
returns-in_default-clause-bytes g c =
    touch_stop c.args.lines.now.arrays c.args.touches.now c.loop-touch.touch-index _ _ (g.S.Sink.held c.args.sink.now) (g.S.Sink.held c.loop-touch.sink) (g.S.Sink.held c.touch.new.sink) c.loop-touch-test.true
    refl c.loop-touch.invariant.put (rw c.loop-touch.invariant.same at c.in_default.ensures.bytes)

pub loop-touch-preserved : goal.loop-touch-preserved
loop-touch-preserved g c = record {
  put =
      touch_more c.args.lines.now.arrays c.args.touches.now c.loop-touch.touch-index _ _ (g.S.Sink.held c.args.sink.now) (g.S.Sink.held c.loop-touch.sink) (g.S.Sink.held c.touch.new.sink) c.loop-touch-test.true
      refl c.loop-touch.invariant.put (rw c.loop-touch.invariant.same at c.in-Ok.ensures.bytes);
  count = c.in-Ok.ensures.cause.kept ∙ c.loop-touch.invariant.count;
  same = c.in-Ok.ensures.same ∙ c.loop-touch.invariant.same;
}

pub returns-clause-bytes : goal.returns-clause-bytes
returns-clause-bytes g c =
    let all : c.loop-touch.touch-index ≡ length c.args.touches.now = omega (arith, c.loop-touch-test.false, c.loop-touch.auto.touch-index-end) in
    touches_all c.args.lines.now.arrays c.args.touches.now c.loop-touch.touch-index (g.S.Sink.held c.args.sink.now) (g.S.Sink.held c.loop-touch.sink) all c.loop-touch.invariant.put
