use Rattle.std.proofs.Common.{◌∙◌, ap, length, rules, ℕ}
use Rattle.std.proofs.lemmas.List.{length-replicate}
use Rattle.dom_shell.proofs.commands.serial.ready.Goals as goal

pub returns-clause-set_up : goal.returns-clause-set_up
returns-clause-set_up c = record {
  program_is = c.in_ok-run.ensures.program;
  arrays_are = c.in_ok-run.ensures.arrays;
  fields = c.in_ok-lines.ensures.fields ∙ c.fields-2.ensures;
  arrays = rw c.arrays.ensures at c.in_ok-lines.ensures.arrays;
  words = search rules;
  each = rw c.fields.ensures at c.in-Ok.ensures.words;
  packet_is = ap length c.in_ok-packet.ensures ∙ length-replicate {A = ℕ} c.len.result 0 ∙ c.len.ensures.number ∙ ap length c.fields-3.ensures;
}

pub returns-clause-packets : goal.returns-clause-packets
returns-clause-packets c = rw c.fields.ensures at c.in-Ok.ensures.packets
