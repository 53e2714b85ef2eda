use Rattle.std.proofs.Common.{ℕ, ◌-◌}
use Rattle.pipeline_law.specs.Queues.{Fire}
use Rattle.elastic_machine.specs.Lanes.{queues_in}
use Rattle.elastic_machine.proofs.Leading.{stands_step}
use Rattle.elastic_machine.proofs.elastic.Elastic.fire.Goals as goal

pub returns-clause-stands : goal.returns-clause-stands
returns-clause-stands g c events is =
    let m = c.self.inside in
    let w : ℕ = m.config.containers in
    stands_step (g.H.HashUnits.meaning c.args.hash.now) g.row.CAP m.config (Fire (c.args.stage - 1))
    (queues_in w g.row.CAP m.marks.items m.words.items) (queues_in w g.row.CAP c.fire_on.new.marks.items c.fire_on.new.words.items)
    m.arrays.items c.fire_on.new.arrays.items c.fire_on.ensures.leads events (rw (← c.self.view_is) at is)
