use Rattle.std.proofs.Common.{◌∙◌, ap}
use Rattle.std.proofs.lemmas.List.{take_all}
use Rattle.dom_words.specs.State.{started}
use Rattle.dom_ast.specs.inner.Runs.{are_filled}
use Rattle.dom_ast.proofs.Serials.{started_filled}
use Rattle.dom_ast.proofs.serial.State.new.Goals as goal

pub invariant_of-result : goal.invariant_of-result
invariant_of-result c = ap are_filled (c.loop-k.invariant ∙ ap started (take_all _ _ (rw (← c.len-k-end.ensures) c.loop-k-test.false))) ∙ started_filled c.args.declared.now c.requires
