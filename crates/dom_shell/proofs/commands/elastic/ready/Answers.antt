use Rattle.std.proofs.Common.{◌≤◌, ◌∙◌, ap, arith, length, rules, ℕ, true}
use Rattle.std.proofs.lemmas.List.{length-replicate}
use Rattle.banzai_config.specs.Checked.{shape_with}
use Rattle.banzai_config.proofs.Staged.{legal_numbers}
use Rattle.dom_shell.proofs.Queues.{few_places, queues_ready}
use Rattle.dom_shell.proofs.commands.elastic.ready.Goals as goal

pub new-requires-2 : goal.new-requires-2
new-requires-2 g c =
    let numbers = legal_numbers (shape_with g.T.AtomTemplate.fits g.T.AtomTemplate.CONST_BITS g.row.DEPTH g.row.SL g.row.SF true) c.args.config c.requires.ready.legal in
    (omega arith, (c.requires.ready.some, (c.requires.ready.few, (c.requires.ready.legal, (omega arith, few_places g.row.DEPTH c.args.config.containers c.requires.ready.few numbers.few_containers)))))

pub returns-clause-set_up : goal.returns-clause-set_up
returns-clause-set_up g c =
    let count = c.len-count.ensures.number ∙ ap length c.fields.ensures in
    let words : length c.args.config.fields ≤ c.in_ok-lines.lines.words = search rules in
    let events = rw c.stages-depth.ensures at c.in-Ok.ensures.events in
    queues_ready g.row.DEPTH c.args.config c.in_ok-elastic.elastic c.in_ok-lines.lines c.args.trace c.in-Ok.events.items c.in_ok-entering.entering c.in_ok-leaving.leaving c.in_ok-elastic.ensures
    (c.in_ok-lines.ensures.fields ∙ c.fields-2.ensures) (rw c.arrays.ensures at c.in_ok-lines.ensures.arrays) words c.requires.ready.each events.1 c.requires.ready.stages c.requires.ready.few
    (ap length c.in_ok-entering.ensures ∙ length-replicate {A = ℕ} c.len-count.result 0 ∙ count)
    (ap length c.in_ok-leaving.ensures ∙ length-replicate {A = ℕ} c.len-count.result 0 ∙ count)

pub returns-clause-events : goal.returns-clause-events
returns-clause-events g c = rw c.stages-depth.ensures at c.in-Ok.ensures.events
