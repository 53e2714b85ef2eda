use Rattle.std.proofs.Common.{◌≡◌, ◌+◌, ◌*◌, ◌≤◌, [], drop, length, map, sum}
use Rattle.dom_ast.specs.Named.{item_nodes, named_form}
use Rattle.three_address.specs.Statements.{draft, with_items}
use Rattle.three_address.proofs.items.put_items.Given as goal

abbrev pub invariant-loop-item : goal.invariant-loop-item
invariant-loop-item l = record {
  rest : with_items l.fields (draft l.lines l.values.items) (map named_form (drop l.item-index l.items)) ≡ with_items l.fields (draft l.fn.lines []) (map named_form l.items);
  few : length l.lines + 2 * sum (map item_nodes (map named_form (drop l.item-index l.items))) ≤ length l.fn.lines + 2 * sum (map item_nodes (map named_form l.items));
}
