use Rattle.std.proofs.Common.{◌≤◌, ◌∙◌, ap, length, rules, ℕ}
use Rattle.std.proofs.lemmas.List.{length-replicate}
use Rattle.dom_shell.proofs.Clocked.{set_up}
use Rattle.dom_shell.proofs.commands.clock.ready.Goals as goal

pub returns-clause-set_up : goal.returns-clause-set_up
returns-clause-set_up g c =
    let count = c.len-count.ensures.number ∙ ap length c.fields-2.ensures in
    let words : length c.args.config.fields ≤ c.in_ok-lines.lines.words = search rules in
    let wide : c.args.config.containers ≤ c.in_ok-lines.lines.words = search rules in
    set_up c.args.config c.in_ok-machine.machine c.in_ok-lines.lines c.in-Ok.trace c.in_ok-entering.entering c.in_ok-leaving.leaving c.in_ok-machine.ensures
    (c.in_ok-lines.ensures.fields ∙ c.fields-3.ensures) (rw c.arrays.ensures at c.in_ok-lines.ensures.arrays) words wide
    (rw c.fields.ensures at c.in-Ok.ensures.words) (rw c.stages-depth.ensures at c.in-Ok.ensures.cycles)
    (ap length c.in_ok-entering.ensures ∙ length-replicate {A = ℕ} c.len-count.result 0 ∙ count)
    (ap length c.in_ok-leaving.ensures ∙ length-replicate {A = ℕ} c.len-count.result 0 ∙ count)
