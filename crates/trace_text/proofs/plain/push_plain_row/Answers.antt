use Rattle.std.proofs.Common.{◌≡◌, ℕ, ◌∷◌, [], List, ◌++◌, sym, ap, subst, ◌∙◌, append_assoc, arith}
use Rattle.trace_text.specs.Plain.{IsPlainRow}
use Rattle.trace_text.proofs.PlainRows.{AtField, first-field, kept-front, next-field, whole-row}
use Rattle.trace_text.proofs.plain.push_plain_row.Goals as goal

pub loop-column-init : goal.loop-column-init
loop-column-init c = (c.in-Some.gap ∷ [], c.in_ok-push.ensures, first-field c.args.text.now c.in-Some.gap c.in-Some.behind.now c.in-Some.ensures)

pub returns-in_default-behind_byte-clause-kept : goal.returns-in_default-behind_byte-clause-kept
returns-in_default-behind_byte-clause-kept c = let inv = c.loop-column.invariant in kept-front _ inv.0 _ inv.1

pub returns-in_default-leading_word-clause-kept : goal.returns-in_default-leading_word-clause-kept
returns-in_default-leading_word-clause-kept c = let inv = c.loop-column.invariant in kept-front _ inv.0 _ inv.1

pub loop-column-preserved : goal.loop-column-preserved
loop-column-preserved c =
    let inv = c.loop-column.invariant in
    let word = c.in-Some-leading_word.word in
    let at = subst (λ (l : List ℕ). AtField c.args.text.now l c.loop-column._column inv.0) c.in-Some-behind_byte.ensures inv.2 in (
      inv.0 ++ word ∷ [],
      c.in_ok-push-2.ensures ∙ ap (λ (l : List ℕ). l ++ word ∷ []) inv.1 ∙ append_assoc c.args.cells.now.items inv.0 (word ∷ []),
      next-field c.args.text.now c.in-Some-behind_byte.rest.now c.loop-column._column inv.0 word c.in-Some-leading_word.rest.now at c.in-Some-leading_word.ensures,
    )

pub returns-clause-row : goal.returns-clause-row
returns-clause-row c =
    let inv = c.loop-column.invariant in
    let text = c.args.text.now in
    let behind = c.loop-column.behind.now in
    let before = c.args.cells.now.items in
    let wide : c.loop-column._column ≡ c.args.width = let done = c.loop-column-test.false in let within = c.loop-column.auto._column-end in let some = c.requires in omega (arith, done, within some, some) in
    let at = subst (λ (n : ℕ). AtField text behind n inv.0) wide inv.2 in
    subst (λ (cells : List ℕ). IsPlainRow c.args.width before cells text behind) (sym inv.1) (whole-row text behind c.args.width before inv.0 at (sym c.is_row_end.ensures ∙ c.if-not-is_row_end.false))

pub returns-clause-kept : goal.returns-clause-kept
returns-clause-kept c = let inv = c.loop-column.invariant in kept-front _ inv.0 _ inv.1
