use Rattle.std.proofs.Common.{◌<◌, subst, arith, List, ℕ, length, get_or}
use Rattle.codelets.specs.ByRows.{linked_by}
use Rattle.codelets.specs.Linked.{twins_of}
use Rattle.codelets.specs.Lists.{IsIn}
use Rattle.codelets.proofs.Classes.{twin_inner}
use Rattle.codelets.proofs.Leasts.{number_below}
use Rattle.codelets.proofs.Tables.{in_at}
use Rattle.codelets.proofs.pieces.by_number.Goals as goal

pub class_with-requires-clause-within : goal.class_with-requires-clause-within
class_with-requires-clause-within c = number_below c.args.numbers.now (length c.args.flat.now.lines) c.loop-a.a-index c.requires.numbers c.loop-a-test.true

pub overflow_add-count : goal.overflow_add-count
overflow_add-count c =
    let P = linked_by c.args.flat.now c.args.graph.now in
    let t : ℕ = get_or c.args.twins.now c.loop-t.t-index 0 in
    let i : IsIn t (twins_of P) = subst (λ (xs : List ℕ). IsIn t xs) c.requires.twins (in_at c.args.twins.now c.loop-t.t-index 0 c.loop-t-test.true) in
    let low : t < length c.args.flat.now.lines = (twin_inner P t i).0 in
    omega (arith, low, c.args.flat.now.few_lines, c.len-count.ensures)
