use Rattle.std.proofs.Common.{◌≡◌, ◌+◌, ◌*◌, ◌≤◌, ◌++◌, drop, length}
use Rattle.dom_ast.specs.PartSize.{ops_nodes, part_nodes, parts_nodes}
use Rattle.dom_ast.specs.Resolved.{form, forms}
use Rattle.dom_ast.specs.inner.PartOps.{op_forms}
use Rattle.three_address.specs.Flattening.{all_flattened, as_is, folded}
use Rattle.three_address.proofs.expressions.+flatten.Given as goal

abbrev pub decreases-put_part : goal.decreases-put_part
decreases-put_part l = 2 * part_nodes (form l.part.now)

abbrev pub decreases-put_parts : goal.decreases-put_parts
decreases-put_parts l = 2 * parts_nodes (forms l.parts.now) + 1

abbrev pub decreases-put_ops : goal.decreases-put_ops
decreases-put_ops l = 2 * ops_nodes (op_forms (drop l.from l.ops.now)) + 1

abbrev pub invariant-put_parts-loop-part : goal.invariant-put_parts-loop-part
invariant-put_parts-loop-part l = record {
  lines : (all_flattened l.fields l.values l.lines (forms (drop l.part-index l.parts))).lines ≡ (all_flattened l.fields l.values l.fn.lines (forms l.parts)).lines;
  operands : l.operands ++ (all_flattened l.fields l.values l.lines (forms (drop l.part-index l.parts))).operands ≡ (all_flattened l.fields l.values l.fn.lines (forms l.parts)).operands;
  few : length l.lines + 2 * parts_nodes (forms (drop l.part-index l.parts)) ≤ length l.fn.lines + 2 * parts_nodes (forms l.parts);
  less : parts_nodes (forms (drop l.part-index l.parts)) ≤ parts_nodes (forms l.parts);
}

abbrev pub invariant-put_ops-loop-k : goal.invariant-put_ops-loop-k
invariant-put_ops-loop-k l = record {
  rest : folded l.fields l.values (as_is l.lines l.a) (op_forms (drop l.k l.ops)) ≡ folded l.fields l.values (as_is l.fn.lines l.fn.first) (op_forms (drop l.from l.ops));
  few : length l.lines + 2 * ops_nodes (op_forms (drop l.k l.ops)) ≤ length l.fn.lines + 2 * ops_nodes (op_forms (drop l.from l.ops));
  less : ops_nodes (op_forms (drop l.k l.ops)) ≤ ops_nodes (op_forms (drop l.from l.ops));
}
