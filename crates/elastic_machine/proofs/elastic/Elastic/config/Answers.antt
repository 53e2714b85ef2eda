use Rattle.std.proofs.Common.{ℕ, ◌+◌, ◌∙◌, ap}
use Rattle.elastic_machine.proofs.Leading.{few_in, length-queues_in}
use Rattle.elastic_machine.proofs.elastic.Elastic.config.Goals as goal

pub returns-clause-queues : goal.returns-clause-queues
returns-clause-queues g c =
    let m = c.self.inside in
    rw (← c.self.view_is)
    (length-queues_in m.config.containers g.row.CAP m.marks.items m.words.items ∙ c.self.invariant.2.queues ∙ ap (λ (n : ℕ). n + 1) c.self.invariant.0)

pub returns-clause-owns : goal.returns-clause-owns
returns-clause-owns g c = rw (← c.self.view_is) c.self.invariant.1.arrays

pub returns-clause-held : goal.returns-clause-held
returns-clause-held g c =
    let m = c.self.inside in
    rw (← c.self.view_is) (few_in m.config.containers g.row.CAP m.marks.items m.words.items c.self.invariant.2.held.within)
