use Rattle.std.proofs.Common.{◌≡◌, ◌≤◌, ◌∙◌, sym, ap, subst, List, Option, Some, length}
use Rattle.std.specs.Prelude.{slice_get}
use Rattle.dom_flat.specs.declared.line.Line.{Line}
use Rattle.codelets.specs.ByRows.{linked_by}
use Rattle.codelets.specs.Linked.{holds_for, uses_value}
use Rattle.codelets.proofs.Tables.{table_read, table_past}
use Rattle.codelets.proofs.table.number_uses.Goals as goal

pub returns-in-Some : goal.returns-in-Some
returns-in-Some c =
    let P = linked_by c.args.flat.now c.args.graph.now in
    c.line_names.ensures
    ∙ ap (holds_for (uses_value c.args.value)) (sym (table_read P c.args.number c.get.result.now (subst (λ (t : List (Option Line)). slice_get t c.args.number ≡ Some c.get.result.now) c.requires c.get.ensures.item) ∙ c.in-Some.is))

pub returns-in-None : goal.returns-in-None
returns-in-None c =
    let P = linked_by c.args.flat.now c.args.graph.now in
    ap (holds_for (uses_value c.args.value)) (sym (table_read P c.args.number c.get.result.now (subst (λ (t : List (Option Line)). slice_get t c.args.number ≡ Some c.get.result.now) c.requires c.get.ensures.item) ∙ c.in-None.is))

pub returns-else-at-len : goal.returns-else-at-len
returns-else-at-len c =
    let P = linked_by c.args.flat.now c.args.graph.now in
    ap (holds_for (uses_value c.args.value)) (sym (table_past P c.args.number (subst (λ (t : List (Option Line)). length t ≤ c.args.number) c.requires (omega (Rattle.std.proofs.Common.arith, c.len.ensures, c.if-at-len.false)))))
