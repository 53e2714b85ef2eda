use Rattle.std.proofs.Common.{◌≡◌, ℕ, List, length, map, subst, sym, ◌∙◌}
use Rattle.std.proofs.lemmas.Result.{MatchResult-weaker}
use Rattle.pipeline_law.specs.Queues.{Leave}
use Rattle.banzai_config.specs.Action.{Entry}
use Rattle.elastic_machine.specs.Lanes.{queues_in}
use Rattle.elastic_machine.specs.Queued.{queued}
use Rattle.elastic_machine.specs.Ready.{Answers, leave_waits}
use Rattle.elastic_machine.proofs.Leading.{left_stays, left_step, stands_step}
use Rattle.elastic_machine.proofs.elastic.Elastic.leave.Goals as goal

pub returns-clause-stands : goal.returns-clause-stands
returns-clause-stands g c hash events is =
    let m = c.self.inside in
    let w : ℕ = m.config.containers in
    stands_step hash g.row.CAP m.config Leave
    (queues_in w g.row.CAP m.marks.items m.words.items) (queues_in w g.row.CAP c.leave_on.new.marks.items m.words.items)
    m.arrays.items m.arrays.items (c.leave_on.ensures.leads hash m.arrays.items) events (rw (← c.self.view_is) at is)

pub returns-clause-left : goal.returns-clause-left
returns-clause-left g c hash events is =
    let m = c.self.inside in
    let qs : List (List Entry) = queues_in m.config.containers g.row.CAP m.marks.items m.words.items in
    let at : (qs ≡ (queued hash g.row.CAP m.config events).queues) × (m.arrays.items ≡ (queued hash g.row.CAP m.config events).state) = rw (← c.self.view_is) at is in
    rw (← c.self.view_is)
    (MatchResult-weaker c.leave_on.result c.leave_on.ensures.shows
    (λ _ shows. left_step hash g.row.CAP m.config events qs c.leave_on.new.leaving at.0 shows)
    (λ _ none. left_stays hash g.row.CAP m.config events qs at.0 none))

pub leave_on-requires-clause-shown : goal.leave_on-requires-clause-shown
leave_on-requires-clause-shown g c =
    let size : length c.args.leaving.now ≡ length c.self.inside.config.fields = rw (← c.self.view_is) at c.requires in
    size ∙ sym c.self.invariant.1.shown

pub returns-clause-answer : goal.returns-clause-answer
returns-clause-answer g c =
    let m = c.self.inside in
    let qs : List (List Entry) = queues_in m.config.containers g.row.CAP m.marks.items m.words.items in
    rw (← c.self.view_is)
    (subst (λ (n : ℕ). Answers (leave_waits n (map length qs)) c.leave_on.result) c.self.invariant.0 c.leave_on.ensures.answer)

pub returns-clause-shows : goal.returns-clause-shows
returns-clause-shows g c = rw (← c.self.view_is) c.leave_on.ensures.shows
