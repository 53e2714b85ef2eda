use Rattle.std.proofs.Common.{◌<◌, ◌≡◌, ◌∙◌, ap, arith, length}
use Rattle.std.proofs.lemmas.List.{length-map}
use Rattle.dom_report.proofs.InTurn.{array_more, array_stop, same_count}
use Rattle.dom_report.proofs.elastic_report.put_words.Goals as goal

pub returns-in_default-clause-bytes : goal.returns-in_default-clause-bytes
returns-in_default-clause-bytes g c =
    let count = rw (c.arrays.ensures, c.config.ensures.same) at c.len-count.ensures in
    let names : length c.args.lines.now.arrays ≡ length c.args.elastic.now.config.arrays = ap length c.requires ∙ length-map c.args.elastic.now.config.arrays (λ array. array.name) in
    let same = same_count c.args.elastic.now.config.arrays c.args.elastic.now.state c.config.ensures.sizes in
    let inside : c.loop-array.array < length c.args.lines.now.arrays = omega (arith, count, names, c.loop-array-test.true) in
    let within : c.loop-array.array < length c.args.elastic.now.state = omega (arith, count, same, c.loop-array-test.true) in
    array_stop c.args.lines.now.arrays c.args.elastic.now.state c.loop-array.array (g.S.Sink.held c.args.sink.now) (g.S.Sink.held c.loop-array.sink) (g.S.Sink.held c.put_array.new.sink)
    inside within c.loop-array.invariant.put (rw c.loop-array.invariant.same at c.in_default.ensures.bytes)

pub loop-array-preserved : goal.loop-array-preserved
loop-array-preserved g c =
    let count = rw (c.arrays.ensures, c.config.ensures.same) at c.len-count.ensures in
    let names : length c.args.lines.now.arrays ≡ length c.args.elastic.now.config.arrays = ap length c.requires ∙ length-map c.args.elastic.now.config.arrays (λ array. array.name) in
    let same = same_count c.args.elastic.now.config.arrays c.args.elastic.now.state c.config.ensures.sizes in
    let inside : c.loop-array.array < length c.args.lines.now.arrays = omega (arith, count, names, c.loop-array-test.true) in
    let within : c.loop-array.array < length c.args.elastic.now.state = omega (arith, count, same, c.loop-array-test.true) in
    record {
      put =
          array_more c.args.lines.now.arrays c.args.elastic.now.state c.loop-array.array (g.S.Sink.held c.args.sink.now) (g.S.Sink.held c.loop-array.sink) (g.S.Sink.held c.put_array.new.sink)
          inside within c.loop-array.invariant.put (rw c.loop-array.invariant.same at c.in-Ok.ensures.bytes);
      count = c.in-Ok.ensures.cause.kept ∙ c.loop-array.invariant.count;
      same = c.in-Ok.ensures.same ∙ c.loop-array.invariant.same;
    }
