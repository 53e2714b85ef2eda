use Rattle.std.proofs.Common.{◌≡◌, ◌<◌, ◌≤◌, ◌+◌, ◌*◌, ℕ, List, length, sym, subst, ap, arith}
use Rattle.std.specs.List.{All}
use Rattle.codelets.specs.Containers.{holders}
use Rattle.codelets.specs.Cut.{cut, in_order}
use Rattle.codelets.specs.Lists.{AreApart}
use Rattle.codelets.specs.ByRows.{linked_by}
use Rattle.codelets.proofs.FlatLinked.{rows_linked}
use Rattle.codelets.proofs.Order.{all_apart, order_apart, order_in}
use Rattle.codelets.proofs.Containers.{all_few, all_small, containers_law, order_few}
use Rattle.codelets.proofs.answer.parts_of.Goals as goal

pub places_used-requires-clause-small : goal.places_used-requires-clause-small
places_used-requires-clause-small c =
    let P = linked_by c.args.flat.now c.args.graph.now in
    let ok = rows_linked c.args.flat.now c.args.graph.now c.requires.size c.requires.reach in
    subst (λ (ds : List (List ℕ)). All (λ d. All (λ a. a < 1024) d) ds) (sym c.in_ok-pieces.ensures) (all_small P ok (cut P).all c.args.flat.now.few_lines (λ d i. i))

pub places_used-requires-clause-few : goal.places_used-requires-clause-few
places_used-requires-clause-few c =
    let P = linked_by c.args.flat.now c.args.graph.now in
    let ok = rows_linked c.args.flat.now c.args.graph.now c.requires.size c.requires.reach in
    let most : length (cut P).all ≤ 2 * length c.args.flat.now.lines = all_few P ok in
    let same : length c.in_ok-pieces.pieces ≡ length (cut P).all = ap length c.in_ok-pieces.ensures in
    omega (arith, most, same, c.args.flat.now.few_lines)

pub places_used-requires-clause-apart : goal.places_used-requires-clause-apart
places_used-requires-clause-apart c =
    let P = linked_by c.args.flat.now c.args.graph.now in
    let ok = rows_linked c.args.flat.now c.args.graph.now c.requires.size c.requires.reach in
    subst AreApart (sym c.in_ok-pieces.ensures) (all_apart P ok)

pub holder_list-requires-clause-small : goal.holder_list-requires-clause-small
holder_list-requires-clause-small c =
    let P = linked_by c.args.flat.now c.args.graph.now in
    let ok = rows_linked c.args.flat.now c.args.graph.now c.requires.size c.requires.reach in
    subst (λ (ds : List (List ℕ)). All (λ d. All (λ a. a < 1024) d) ds) (sym c.in_ok-order.ensures) (all_small P ok (in_order (cut P)) c.args.flat.now.few_lines (order_in (cut P)))

pub codelet_list-requires-clause-small : goal.codelet_list-requires-clause-small
codelet_list-requires-clause-small c =
    let P = linked_by c.args.flat.now c.args.graph.now in
    let ok = rows_linked c.args.flat.now c.args.graph.now c.requires.size c.requires.reach in
    subst (λ (ds : List (List ℕ)). All (λ d. All (λ a. a < 1024) d) ds) (sym c.in_ok-order.ensures) (all_small P ok (in_order (cut P)) c.args.flat.now.few_lines (order_in (cut P)))

pub codelet_list-requires-clause-few : goal.codelet_list-requires-clause-few
codelet_list-requires-clause-few c =
    let P = linked_by c.args.flat.now c.args.graph.now in
    let ok = rows_linked c.args.flat.now c.args.graph.now c.requires.size c.requires.reach in
    let most : length (holders (cut P)) ≤ length c.args.flat.now.fields + 2 * length c.args.flat.now.lines = containers_law P ok in
    omega (arith, most, c.args.flat.now.few_lines, c.args.flat.now.few_fields, ap length c.in_ok-values.ensures, ap length c.as_slice-9.ensures)

pub codelet_list-requires-clause-few_codelets : goal.codelet_list-requires-clause-few_codelets
codelet_list-requires-clause-few_codelets c =
    let P = linked_by c.args.flat.now c.args.graph.now in
    let ok = rows_linked c.args.flat.now c.args.graph.now c.requires.size c.requires.reach in
    let most : length (in_order (cut P)) ≤ 2 * length c.args.flat.now.lines = order_few P ok in
    let same : length c.in_ok-order.order ≡ length (in_order (cut P)) = ap length c.in_ok-order.ensures in
    omega (arith, most, same, c.args.flat.now.few_lines)

pub codelet_list-requires-clause-apart : goal.codelet_list-requires-clause-apart
codelet_list-requires-clause-apart c =
    let P = linked_by c.args.flat.now c.args.graph.now in
    let ok = rows_linked c.args.flat.now c.args.graph.now c.requires.size c.requires.reach in
    subst AreApart (sym c.in_ok-order.ensures) (order_apart P ok)

pub returns-clause-few : goal.returns-clause-few
returns-clause-few c =
    let P = linked_by c.args.flat.now c.args.graph.now in
    let ok = rows_linked c.args.flat.now c.args.graph.now c.requires.size c.requires.reach in
    let most : length (holders (cut P)) ≤ length c.args.flat.now.fields + 2 * length c.args.flat.now.lines = containers_law P ok in
    let same : length c.in_ok-values.values ≡ length (holders (cut P)) = ap length c.in_ok-values.ensures in
    omega (arith, most, same, c.args.flat.now.few_lines, c.args.flat.now.few_fields)
