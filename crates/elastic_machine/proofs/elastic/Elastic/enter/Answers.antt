use Rattle.std.proofs.Common.{◌≡◌, ℕ, length, arith}
use Rattle.pipeline_law.specs.Queues.{Enter}
use Rattle.elastic_machine.specs.Lanes.{queues_in}
use Rattle.elastic_machine.proofs.Leading.{stands_step}
use Rattle.elastic_machine.proofs.elastic.Elastic.enter.Goals as goal

pub returns-clause-stands : goal.returns-clause-stands
returns-clause-stands g c hash events is =
    let m = c.self.inside in
    let w : ℕ = m.config.containers in
    stands_step hash g.row.CAP m.config (Enter c.args.packet.now)
    (queues_in w g.row.CAP m.marks.items m.words.items) (queues_in w g.row.CAP c.enter_on.new.marks.items c.enter_on.new.words.items)
    m.arrays.items m.arrays.items (c.enter_on.ensures.leads hash m.arrays.items) events (rw (← c.self.view_is) at is)

pub enter_on-requires-clause-fields : goal.enter_on-requires-clause-fields
enter_on-requires-clause-fields g c =
    let size : length c.args.packet.now ≡ length c.self.inside.config.fields = rw (← c.self.view_is) at c.requires in
    omega (arith, size, c.self.invariant.1.fields)
