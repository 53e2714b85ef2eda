use Rattle.std.proofs.Common.{map, length, ap, ◌∙◌}
use Rattle.dom_ast.specs.Named.{named_form}
use Rattle.dom_ast.specs.Resolved.{form}
use Rattle.std.proofs.lemmas.List.{length-map}
use Rattle.three_address.proofs.Passed.{list_flanks, list_moduli, list_order, list_outputs, list_outs, list_ranges}
use Rattle.three_address.proofs.WholeMeans.{list_means}
use Rattle.three_address.proofs.pass.flatten.Goals as goal

pub invariant_of-result-clause-ranges : goal.invariant_of-result-clause-ranges
invariant_of-result-clause-ranges c =
    list_ranges _ _ (length c.args.steps.fields) (length c.args.steps.arrays) (map named_form c.args.steps.items) (map form c.args.steps.outputs) (record { n = _; xs = _; ys = _; count = c.len.ensures.number; xs_are = ap (map named_form) c.as_slice.ensures; ys_are = ap (map form) c.as_slice-2.ensures; lines_are = c.in_ok-lines.ensures.lines; operands_are = c.in_ok-lines.ensures.outputs; named = c.args.steps.ranges; in_order = c.args.steps.order; outs = c.args.steps.output_ranges })

pub invariant_of-result-clause-small_moduli : goal.invariant_of-result-clause-small_moduli
invariant_of-result-clause-small_moduli c =
    list_moduli _ _ (length c.args.steps.fields) (length c.args.steps.arrays) (map named_form c.args.steps.items) (map form c.args.steps.outputs) (record { n = _; xs = _; ys = _; count = c.len.ensures.number; xs_are = ap (map named_form) c.as_slice.ensures; ys_are = ap (map form) c.as_slice-2.ensures; lines_are = c.in_ok-lines.ensures.lines; operands_are = c.in_ok-lines.ensures.outputs; named = c.args.steps.ranges; in_order = c.args.steps.order; outs = c.args.steps.output_ranges })

pub invariant_of-result-clause-order : goal.invariant_of-result-clause-order
invariant_of-result-clause-order c =
    list_order _ _ (length c.args.steps.fields) (length c.args.steps.arrays) (map named_form c.args.steps.items) (map form c.args.steps.outputs) (record { n = _; xs = _; ys = _; count = c.len.ensures.number; xs_are = ap (map named_form) c.as_slice.ensures; ys_are = ap (map form) c.as_slice-2.ensures; lines_are = c.in_ok-lines.ensures.lines; operands_are = c.in_ok-lines.ensures.outputs; named = c.args.steps.ranges; in_order = c.args.steps.order; outs = c.args.steps.output_ranges })

pub invariant_of-result-clause-flanks : goal.invariant_of-result-clause-flanks
invariant_of-result-clause-flanks c =
    list_flanks _ _ (length c.args.steps.fields) (length c.args.steps.arrays) (map named_form c.args.steps.items) (map form c.args.steps.outputs) (record { n = _; xs = _; ys = _; count = c.len.ensures.number; xs_are = ap (map named_form) c.as_slice.ensures; ys_are = ap (map form) c.as_slice-2.ensures; lines_are = c.in_ok-lines.ensures.lines; operands_are = c.in_ok-lines.ensures.outputs; named = c.args.steps.ranges; in_order = c.args.steps.order; outs = c.args.steps.output_ranges })

pub invariant_of-result-clause-known_outputs : goal.invariant_of-result-clause-known_outputs
invariant_of-result-clause-known_outputs c =
    list_outputs _ _ (length c.args.steps.fields) (length c.args.steps.arrays) (map named_form c.args.steps.items) (map form c.args.steps.outputs) (record { n = _; xs = _; ys = _; count = c.len.ensures.number; xs_are = ap (map named_form) c.as_slice.ensures; ys_are = ap (map form) c.as_slice-2.ensures; lines_are = c.in_ok-lines.ensures.lines; operands_are = c.in_ok-lines.ensures.outputs; named = c.args.steps.ranges; in_order = c.args.steps.order; outs = c.args.steps.output_ranges })

pub invariant_of-result-clause-one_output_each : goal.invariant_of-result-clause-one_output_each
invariant_of-result-clause-one_output_each c =
    list_outs _ _ (length c.args.steps.fields) (length c.args.steps.arrays) (map named_form c.args.steps.items) (map form c.args.steps.outputs) (record { n = _; xs = _; ys = _; count = c.len.ensures.number; xs_are = ap (map named_form) c.as_slice.ensures; ys_are = ap (map form) c.as_slice-2.ensures; lines_are = c.in_ok-lines.ensures.lines; operands_are = c.in_ok-lines.ensures.outputs; named = c.args.steps.ranges; in_order = c.args.steps.order; outs = c.args.steps.output_ranges })
    ∙ length-map c.args.steps.outputs form ∙ c.args.steps.one_output_each

pub returns-clause-means : goal.returns-clause-means
returns-clause-means c =
    λ hash packet state holds. list_means _ _ (length c.args.steps.fields) (length c.args.steps.arrays) (map named_form c.args.steps.items) (map form c.args.steps.outputs) (record { n = _; xs = _; ys = _; count = c.len.ensures.number; xs_are = ap (map named_form) c.as_slice.ensures; ys_are = ap (map form) c.as_slice-2.ensures; lines_are = c.in_ok-lines.ensures.lines; operands_are = c.in_ok-lines.ensures.outputs; named = c.args.steps.ranges; in_order = c.args.steps.order; outs = c.args.steps.output_ranges }) hash packet state holds.0 holds.1
