use Rattle.std.proofs.Common.{map, ◌∙◌}
use Rattle.dom_ast.specs.Named.{named_form}
use Rattle.dom_ast.specs.Resolved.{form}
use Rattle.three_address.proofs.Passed.{made_order, made_outputs, made_ranges}
use Rattle.three_address.proofs.pass.needed_statements.Goals as goal

pub keep_needed-requires-clause-ranges : goal.keep_needed-requires-clause-ranges
keep_needed-requires-clause-ranges c =
    made_ranges c.args.fields c.args.arrays (map named_form c.args.items.now) (map form c.args.outputs.now) _ c.as_slice-2.result.now (record { lines_are = c.as_slice.ensures ∙ c.in-Ok.ensures.lines; operands_are = c.as_slice-2.ensures ∙ c.in-Ok.ensures.operands; named = c.requires.ranges; in_order = c.requires.order; outs = c.requires.output_ranges })

pub keep_needed-requires-clause-order : goal.keep_needed-requires-clause-order
keep_needed-requires-clause-order c =
    made_order c.args.fields c.args.arrays (map named_form c.args.items.now) (map form c.args.outputs.now) _ c.as_slice-2.result.now (record { lines_are = c.as_slice.ensures ∙ c.in-Ok.ensures.lines; operands_are = c.as_slice-2.ensures ∙ c.in-Ok.ensures.operands; named = c.requires.ranges; in_order = c.requires.order; outs = c.requires.output_ranges })

pub keep_needed-requires-clause-outputs : goal.keep_needed-requires-clause-outputs
keep_needed-requires-clause-outputs c =
    made_outputs c.args.fields c.args.arrays (map named_form c.args.items.now) (map form c.args.outputs.now) _ _ (record { lines_are = c.as_slice.ensures ∙ c.in-Ok.ensures.lines; operands_are = c.as_slice-2.ensures ∙ c.in-Ok.ensures.operands; named = c.requires.ranges; in_order = c.requires.order; outs = c.requires.output_ranges })
