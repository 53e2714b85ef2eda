use Rattle.std.proofs.Common.{◌≡◌, map, ◌++◌, drop}
use Rattle.dom_ast.specs.Flanks.{flank_form}
use Rattle.dom_ast.specs.Kept.{ops_mentions, parts_mentions}
use Rattle.dom_ast.specs.Resolved.{forms}
use Rattle.dom_ast.specs.inner.PartOps.{op_forms}
use Rattle.state_flanks.specs.inner.Tables.{marks, reads}
use Rattle.state_flanks.proofs.reads.+reads.Given as goal

abbrev pub invariant-put_args-loop-part : goal.invariant-put_args-loop-part
invariant-put_args-loop-part l = record {
  items : map flank_form l.items ++ reads l.mentioned (parts_mentions (forms (drop l.part-index l.parts))) ≡ map flank_form l.fn.items ++ reads l.fn.mentioned (parts_mentions (forms l.parts));
  mentioned : marks l.mentioned (parts_mentions (forms (drop l.part-index l.parts))) ≡ marks l.fn.mentioned (parts_mentions (forms l.parts));
}

abbrev pub invariant-put_operands-loop-operand : goal.invariant-put_operands-loop-operand
invariant-put_operands-loop-operand l = record {
  items : map flank_form l.items ++ reads l.mentioned (ops_mentions (op_forms (drop l.operand-index l.operands))) ≡ map flank_form l.fn.items ++ reads l.fn.mentioned (ops_mentions (op_forms l.operands));
  mentioned : marks l.mentioned (ops_mentions (op_forms (drop l.operand-index l.operands))) ≡ marks l.fn.mentioned (ops_mentions (op_forms l.operands));
}
