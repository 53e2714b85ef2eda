use Rattle.std.proofs.Common.{◌<◌, arith, length}
use Rattle.dom_report.proofs.InTurn.{same_count}
use Rattle.dom_report.proofs.Summaries.{total_all, total_more}
use Rattle.dom_report.proofs.selfrun.sum_words.Goals as goal

pub loop-array-preserved : goal.loop-array-preserved
loop-array-preserved g c =
    let count = rw (c.arrays.ensures, c.config.ensures.same) at c.len-count.ensures in
    let same = same_count c.args.machine.now.config.arrays c.args.machine.now.row.state c.config.ensures.sizes in
    let within : c.loop-array.array < length c.args.machine.now.row.state = omega (arith, count, same, c.loop-array-test.true) in
    total_more c.args.machine.now.row.state c.loop-array.array c.loop-array.total c.sum_array-part.result within c.loop-array.invariant c.sum_array-part.ensures

pub returns : goal.returns
returns g c =
    let count = rw (c.arrays.ensures, c.config.ensures.same) at c.len-count.ensures in
    let same = same_count c.args.machine.now.config.arrays c.args.machine.now.row.state c.config.ensures.sizes in
    total_all c.args.machine.now.row.state c.loop-array.array c.loop-array.total (omega (arith, count, same, c.loop-array-test.false, c.loop-array.auto.array-end)) c.loop-array.invariant
