use Rattle.std.proofs.Common.{◌≡◌, ◌+◌, ◌∙◌, arith, length, map, refl}
use Rattle.std.proofs.lemmas.List.{length-map}
use Rattle.probe_taps.specs.Attached.{attached_forms}
use Rattle.dom_report.proofs.ProbeEnd.{tap_more, tap_stop, taps_all}
use Rattle.dom_report.proofs.probe_report.put_taps.Goals as goal

pub returns-in_default-clause-bytes : goal.returns-in_default-clause-bytes
returns-in_default-clause-bytes g c =
    tap_stop (map (λ a. a.tap.number) (attached_forms (λ b. (goal.Tap-dyn g (b.vtable, b.value)).form b.value) c.args.tapped.now.taps.items)) c.loop-position.position (c.loop-position.position + 1) c.tell-number.result
    _ (g.S.Sink.held c.loop-position.sink) (g.S.Sink.held c.tap.new.sink) refl c.tell-number.ensures c.loop-position.invariant.put c.in_default.ensures.bytes

pub loop-position-preserved : goal.loop-position-preserved
loop-position-preserved g c = record {
  put =
      tap_more (map (λ a. a.tap.number) (attached_forms (λ b. (goal.Tap-dyn g (b.vtable, b.value)).form b.value) c.args.tapped.now.taps.items)) c.loop-position.position (c.loop-position.position + 1) c.tell-number.result
      _ (g.S.Sink.held c.loop-position.sink) (g.S.Sink.held c.tap.new.sink) refl c.tell-number.ensures c.loop-position.invariant.put c.in-Ok.ensures.bytes;
  count = c.in-Ok.ensures.cause.kept ∙ c.loop-position.invariant.count;
  same = c.in-Ok.ensures.same ∙ c.loop-position.invariant.same;
}

pub returns-clause-bytes : goal.returns-clause-bytes
returns-clause-bytes g c =
    let numbers = map (λ a. a.tap.number) (attached_forms (λ b. (goal.Tap-dyn g (b.vtable, b.value)).form b.value) c.args.tapped.now.taps.items) in
    let forms = attached_forms (λ b. (goal.Tap-dyn g (b.vtable, b.value)).form b.value) c.args.tapped.now.taps.items in
    let size : length numbers ≡ length c.args.tapped.now.taps.items = length-map forms (λ a. a.tap.number) ∙ length-map c.args.tapped.now.taps.items _ in
    taps_all numbers c.loop-position.position _ (g.S.Sink.held c.loop-position.sink) (omega (arith, size, c.requires, c.loop-position-test.false, c.loop-position.auto.position-end)) c.loop-position.invariant.put
