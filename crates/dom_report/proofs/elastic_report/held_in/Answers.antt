use Rattle.std.proofs.Common.{◌<◌, ◌≤◌, ◌≡◌, ◌+◌, arith, length}
use Rattle.dom_report.proofs.ElasticRuns.{each_few, few_more, sum_more}
use Rattle.dom_report.proofs.elastic_report.held_in.Goals as goal

pub overflow_add-held : goal.overflow_add-held
overflow_add-held g c =
    let stages = rw c.config.ensures.same at c.stages.ensures in
    let inside : c.loop-queue.queue < length c.args.elastic.now.queues = omega (arith, c.config.ensures.queues, c.config.ensures.depth, stages, c.loop-queue-test.true) in
    let below : c.loop-queue.queue < length c.args.elastic.now.config.stages + 1 = omega (arith, stages, c.loop-queue-test.true) in
    let one : c.held.result ≤ g.row.CAP = each_few g.row.CAP c.args.elastic.now.queues c.loop-queue.queue c.held.result inside c.held.ensures c.config.ensures.held in
    let few = few_more c.loop-queue.queue (length c.args.elastic.now.config.stages) g.row.CAP c.loop-queue.held c.held.result below c.loop-queue.invariant.few one in
    omega (arith, few.1, c.requires.few)

pub loop-queue-preserved : goal.loop-queue-preserved
loop-queue-preserved g c =
    let stages = rw c.config.ensures.same at c.stages.ensures in
    let inside : c.loop-queue.queue < length c.args.elastic.now.queues = omega (arith, c.config.ensures.queues, c.config.ensures.depth, stages, c.loop-queue-test.true) in
    let below : c.loop-queue.queue < length c.args.elastic.now.config.stages + 1 = omega (arith, stages, c.loop-queue-test.true) in
    let one : c.held.result ≤ g.row.CAP = each_few g.row.CAP c.args.elastic.now.queues c.loop-queue.queue c.held.result inside c.held.ensures c.config.ensures.held in
    let few = few_more c.loop-queue.queue (length c.args.elastic.now.config.stages) g.row.CAP c.loop-queue.held c.held.result below c.loop-queue.invariant.few one in
    record { sum = rw c.loop-queue.invariant.sum (sum_more c.args.elastic.now.queues c.loop-queue.queue c.held.result inside c.held.ensures); few = few.0 }
