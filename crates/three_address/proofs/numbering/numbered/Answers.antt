use Rattle.std.proofs.Common.{◌≡◌, ℕ, ◌+◌, true, sym, ◌∙◌, subst}
use Rattle.dom_flat.specs.Kept.{are_below}
use Rattle.three_address.specs.inner.Numbering.{lines_below}
use Rattle.three_address.proofs.Passed.{lines_numbered, numbers_length, outputs_numbered}
use Rattle.three_address.proofs.numbering.numbered.Goals as goal

pub kept_lines-requires-clause-operands : goal.kept_lines-requires-clause-operands
kept_lines-requires-clause-operands c =
    subst (λ (n : ℕ). lines_below (c.args.fields + n) c.args.lines.now ≡ true) (sym (numbers_length c.args.fields c.args.marks.now _ _ (c.as_slice.ensures.value ∙ c.in_ok-numbers.ensures) c.requires.marks)) c.requires.lines

pub all_renumbered-requires : goal.all_renumbered-requires
all_renumbered-requires c =
    subst (λ (n : ℕ). are_below (c.args.fields + n) c.args.outputs.now ≡ true) (sym (numbers_length c.args.fields c.args.marks.now _ _ (c.as_slice-2.ensures.value ∙ c.in_ok-numbers.ensures) c.requires.marks)) c.requires.outputs

pub returns-clause-lines : goal.returns-clause-lines
returns-clause-lines c =
    c.in_ok-kept.ensures.same ∙ lines_numbered c.args.fields c.args.marks.now _ c.args.lines.now (c.as_slice.ensures.value ∙ c.in_ok-numbers.ensures) c.requires.marks c.requires.lines

pub returns-clause-outputs : goal.returns-clause-outputs
returns-clause-outputs c =
    c.in_ok-outputs.ensures.same ∙ outputs_numbered c.args.fields c.args.marks.now _ c.args.lines.now c.args.outputs.now (c.as_slice-2.ensures.value ∙ c.in_ok-numbers.ensures) c.requires.marks c.requires.outputs
