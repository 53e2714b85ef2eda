use Rattle.std.proofs.Common.{◌≡◌, ◌∙◌, ap, arith, length}
use Rattle.std.proofs.lemmas.List.{length-map}
use Rattle.dom_report.proofs.DrivenEnd.{place_more, place_stop}
use Rattle.dom_report.proofs.run_report.put_places.Goals as goal

pub returns-in_default-clause-bytes : goal.returns-in_default-clause-bytes
returns-in_default-clause-bytes g c =
    let names : length c.args.lines.now.arrays ≡ length c.args.machine.now.config.arrays = ap length c.requires ∙ length-map c.args.machine.now.config.arrays (λ array. array.name) in
    let count = rw (c.arrays.ensures, c.config.ensures.same) at c.len-count.ensures in
    let placed = rw c.config-in-loop-array.ensures.same at c.place-place.ensures in
    place_stop c.args.machine.now.config.stages c.args.lines.now.arrays c.loop-array.array (g.S.Sink.held c.args.sink.now) (g.S.Sink.held c.loop-array.sink) (g.S.Sink.held c.put_place.new.sink)
    (omega (arith, count, names, c.loop-array-test.true)) c.loop-array.invariant.put (rw (placed, c.loop-array.invariant.same) at c.in_default.ensures.bytes)

pub loop-array-preserved : goal.loop-array-preserved
loop-array-preserved g c =
    let names : length c.args.lines.now.arrays ≡ length c.args.machine.now.config.arrays = ap length c.requires ∙ length-map c.args.machine.now.config.arrays (λ array. array.name) in
    let count = rw (c.arrays.ensures, c.config.ensures.same) at c.len-count.ensures in
    let placed = rw c.config-in-loop-array.ensures.same at c.place-place.ensures in
    record {
      put =
          place_more c.args.machine.now.config.stages c.args.lines.now.arrays c.loop-array.array (g.S.Sink.held c.args.sink.now) (g.S.Sink.held c.loop-array.sink) (g.S.Sink.held c.put_place.new.sink)
          (omega (arith, count, names, c.loop-array-test.true)) c.loop-array.invariant.put (rw (placed, c.loop-array.invariant.same) at c.in-Ok.ensures.bytes);
      count = c.in-Ok.ensures.cause.kept ∙ c.loop-array.invariant.count;
      same = c.in-Ok.ensures.same ∙ c.loop-array.invariant.same;
    }
