use Rattle.std.proofs.Common.{ℕ, ◌∙◌, ap, length, sym}
use Rattle.std.proofs.lemmas.List.{length-replicate}
use Rattle.dom_shell.proofs.Ranks.{position_is, ranked_ready}
use Rattle.dom_shell.proofs.commands.schedule.with_queue.Goals as goal

pub returns-clause-ready : goal.returns-clause-ready
returns-clause-ready g c hash =
    ranked_ready hash c.args.run.machine c.args.run.lines c.args.run.trace c.args.run.entering c.args.run.leaving c.in_ok-dropped.dropped c.in-Some.rank c.args.ranking.room c.args.ranking.every c.in_ok-ranked.ranked c.requires.set_up c.in_ok-ranked.ensures.new
    (ap length c.in_ok-dropped.ensures ∙ length-replicate {A = ℕ} c.len.result 0 ∙ (c.len.ensures.number ∙ ap length (rw c.config.ensures.same at c.fields-fields.ensures))) c.args.ranking.few c.args.ranking.some_cycle c.args.ranking.often

pub returns-clause-rank : goal.returns-clause-rank
returns-clause-rank g c =
    ap (λ r. r.rank) c.in_ok-ranked.ensures.new
    ∙ position_is c.args.run.machine.config.fields c.args.ranking.field.now c.in-Some.rank (sym (rw (c.fields-fields.ensures, c.config.ensures.same, c.as_bytes.ensures.value) at c.find.ensures.index) ∙ c.in-Some.is)
