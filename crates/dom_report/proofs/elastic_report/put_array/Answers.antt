use Rattle.std.proofs.Common.{◌<◌, ◌≡◌, ◌∙◌, arith, length}
use Rattle.dom_words.specs.State.{array_of}
use Rattle.trace_text.specs.Lines.{name_at}
use Rattle.dom_report.proofs.InTurn.{array_size, same_count, word_more, word_stop, words_all}
use Rattle.dom_report.proofs.elastic_report.put_array.Goals as goal

pub returns-in_default-clause-bytes : goal.returns-in_default-clause-bytes
returns-in_default-clause-bytes g c =
    let size = array_size c.args.elastic.now.config.arrays c.args.elastic.now.state c.args.array c.get.result.now c.config.ensures.sizes (rw (c.arrays.ensures, c.config.ensures.same) at c.get.ensures.item) in
    let inside : c.loop-index.index < length (array_of c.args.elastic.now.state c.args.array) = omega (arith, size, c.loop-index-test.true) in
    word_stop (name_at c.args.lines.now.arrays c.args.array) (array_of c.args.elastic.now.state c.args.array) c.loop-index.index c.word-word.result (g.S.Sink.held c.args.sink.now)
    (g.S.Sink.held c.loop-index.sink) (g.S.Sink.held c.put_word.new.sink) inside c.word-word.ensures c.loop-index.invariant.put (rw c.loop-index.invariant.same at c.in_default.ensures.bytes)

pub loop-index-preserved : goal.loop-index-preserved
loop-index-preserved g c =
    let size = array_size c.args.elastic.now.config.arrays c.args.elastic.now.state c.args.array c.get.result.now c.config.ensures.sizes (rw (c.arrays.ensures, c.config.ensures.same) at c.get.ensures.item) in
    let inside : c.loop-index.index < length (array_of c.args.elastic.now.state c.args.array) = omega (arith, size, c.loop-index-test.true) in
    record {
      put =
          word_more (name_at c.args.lines.now.arrays c.args.array) (array_of c.args.elastic.now.state c.args.array) c.loop-index.index c.word-word.result (g.S.Sink.held c.args.sink.now)
          (g.S.Sink.held c.loop-index.sink) (g.S.Sink.held c.put_word.new.sink) inside c.word-word.ensures c.loop-index.invariant.put (rw c.loop-index.invariant.same at c.in-Ok.ensures.bytes);
      count = c.in-Ok.ensures.cause.kept ∙ c.loop-index.invariant.count;
      same = c.in-Ok.ensures.same ∙ c.loop-index.invariant.same;
    }

pub returns-clause-bytes : goal.returns-clause-bytes
returns-clause-bytes g c =
    let size = array_size c.args.elastic.now.config.arrays c.args.elastic.now.state c.args.array c.get.result.now c.config.ensures.sizes (rw (c.arrays.ensures, c.config.ensures.same) at c.get.ensures.item) in
    let all : c.loop-index.index ≡ length (array_of c.args.elastic.now.state c.args.array) = omega (arith, size, c.loop-index-test.false, c.loop-index.auto.index-end) in
    words_all (name_at c.args.lines.now.arrays c.args.array) (array_of c.args.elastic.now.state c.args.array) c.loop-index.index (g.S.Sink.held c.args.sink.now) (g.S.Sink.held c.loop-index.sink) all
    c.loop-index.invariant.put

pub word-word-requires : goal.word-word-requires
word-word-requires g c =
    let size = array_size c.args.elastic.now.config.arrays c.args.elastic.now.state c.args.array c.get.result.now c.config.ensures.sizes (rw (c.arrays.ensures, c.config.ensures.same) at c.get.ensures.item) in
    let same = same_count c.args.elastic.now.config.arrays c.args.elastic.now.state c.config.ensures.sizes in
    (omega arith, (omega (arith, same, c.requires.array), omega (arith, size, c.loop-index-test.true)))
