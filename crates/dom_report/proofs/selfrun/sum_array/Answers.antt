use Rattle.std.proofs.Common.{◌<◌, arith, length}
use Rattle.dom_words.specs.State.{array_of}
use Rattle.dom_report.proofs.InTurn.{array_size, same_count}
use Rattle.dom_report.proofs.Summaries.{sum_all, sum_more}
use Rattle.dom_report.proofs.selfrun.sum_array.Goals as goal

pub word-word-requires : goal.word-word-requires
word-word-requires g c =
    let size = array_size c.args.machine.now.config.arrays c.args.machine.now.row.state c.args.array c.get.result.now c.config.ensures.sizes (rw (c.arrays.ensures, c.config.ensures.same) at c.get.ensures.item) in
    let same = same_count c.args.machine.now.config.arrays c.args.machine.now.row.state c.config.ensures.sizes in
    (omega (arith, same, c.requires), omega (arith, size, c.loop-index-test.true))

pub loop-index-preserved : goal.loop-index-preserved
loop-index-preserved g c =
    let size = array_size c.args.machine.now.config.arrays c.args.machine.now.row.state c.args.array c.get.result.now c.config.ensures.sizes (rw (c.arrays.ensures, c.config.ensures.same) at c.get.ensures.item) in
    let inside : c.loop-index.index < length (array_of c.args.machine.now.row.state c.args.array) = omega (arith, size, c.loop-index-test.true) in
    sum_more (array_of c.args.machine.now.row.state c.args.array) c.loop-index.index c.loop-index.total c.word-word.result inside c.loop-index.invariant c.word-word.ensures

pub returns : goal.returns
returns g c =
    let size = array_size c.args.machine.now.config.arrays c.args.machine.now.row.state c.args.array c.get.result.now c.config.ensures.sizes (rw (c.arrays.ensures, c.config.ensures.same) at c.get.ensures.item) in
    sum_all (array_of c.args.machine.now.row.state c.args.array) c.loop-index.index c.loop-index.total (omega (arith, size, c.loop-index-test.false, c.loop-index.auto.index-end)) c.loop-index.invariant
