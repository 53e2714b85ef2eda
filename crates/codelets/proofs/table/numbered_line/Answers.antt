use Rattle.std.proofs.Common.{◌≡◌, ◌∙◌, ◌-◌, sym, subst, true, List, ℕ}
use Rattle.codelets.specs.ByRows.{linked_by}
use Rattle.codelets.specs.Linked.{twins_of}
use Rattle.codelets.specs.Lists.{has}
use Rattle.codelets.proofs.Lists.{has_in}
use Rattle.codelets.proofs.Classes.{twin_inner}
use Rattle.codelets.proofs.table.numbered_line.Goals as goal

pub get-requires-then-is_in : goal.get-requires-then-is_in
get-requires-then-is_in c =
    let P = linked_by c.args.flat.now c.args.graph.now in
    let j : ℕ = c.args.number - c.len-count.result in
    (twin_inner P j (has_in (twins_of P) j (subst (λ (xs : List ℕ). has xs j ≡ true) c.requires (sym c.is_in.ensures ∙ c.if-is_in.true)))).0
