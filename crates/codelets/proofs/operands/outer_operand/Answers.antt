use Rattle.std.proofs.Common.{◌≡◌, ◌∙◌, ◌-◌, ◌<◌, sym, subst, arith, true, List, ℕ, length}
use Rattle.codelets.specs.ByRows.{linked_by}
use Rattle.codelets.specs.Linked.{twins_of}
use Rattle.codelets.specs.Lists.{has}
use Rattle.codelets.proofs.Lists.{has_in}
use Rattle.codelets.proofs.Classes.{twin_inner}
use Rattle.codelets.proofs.operands.outer_operand.Goals as goal

pub overflow_add-result : goal.overflow_add-result
overflow_add-result c =
    let P = linked_by c.args.flat.now c.args.graph.now in
    let j : ℕ = c.in-Value.value - c.len-fields.result in
    let there : has (twins_of P) j ≡ true = subst (λ (xs : List ℕ). has xs j ≡ true) c.requires (sym c.is_in.ensures ∙ c.if-is_in.true) in
    let low : j < length c.args.flat.now.lines = (twin_inner P j (has_in (twins_of P) j there)).0 in
    omega (arith, low, c.args.flat.now.few_lines, c.args.flat.now.few_fields, c.len.ensures, c.len-fields.ensures.number, c.if-value-fields.false)
