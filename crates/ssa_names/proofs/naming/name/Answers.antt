use Rattle.std.proofs.Common.{◌≡◌, length, map, rules, sym, ap, ◌∙◌, arith}
use Rattle.std.proofs.lemmas.List.{length-map}
use Rattle.dom_ast.specs.Flanks.{flank_form}
use Rattle.dom_ast.specs.Named.{named_form}
use Rattle.dom_ast.specs.Resolved.{form}
use Rattle.ssa_names.specs.Naming.{operand_form}
use Rattle.ssa_names.specs.inner.Tables.{tabled}
use Rattle.ssa_names.proofs.Sizes.{few_flanks}
use Rattle.ssa_names.proofs.Whole.{whole_ends, whole_few, whole_items, whole_means, whole_named, whole_order, whole_outputs, whole_width}
use Rattle.ssa_names.proofs.naming.name.Goals as goal

pub walked-requires : goal.walked-requires
walked-requires c =
    let steps = c.args.steps.items in
    let few = few_flanks (map flank_form steps) in
    let size = length-map steps flank_form in
    let same = ap length c.into_vec.ensures in
    omega arith

pub invariant_of-result : goal.invariant_of-result
invariant_of-result c =
    let s = c.args.steps in
    let fields = length s.fields in
    let arrays = length s.arrays in
    let xs = map flank_form s.items in
    let items = c.in_ok-tables.field-0.items in
    let outputs = c.in_ok-outputs.outputs in
    let these : map named_form items ≡ (tabled fields arrays s.fresh xs).items = search rules in
    let those : map form outputs ≡ map operand_form (tabled fields arrays s.fresh xs).rows.fields = search rules in
    record {
      some_fields = s.some_fields;
      few_fields = s.few_fields;
      few_arrays = s.few_arrays;
      lengths = s.lengths;
      first_words = s.first_words;
      few_words = s.few_words;
      ranges = whole_items fields arrays s.fresh xs s.flanks s.ranges (map named_form items) (map form outputs) these those;
      order = whole_order fields arrays s.fresh xs s.flanks s.ranges (map named_form items) (map form outputs) these those;
      output_ranges = whole_outputs fields arrays s.fresh xs s.flanks s.ranges (map named_form items) (map form outputs) these those;
      one_output_each = sym (length-map outputs form) ∙ whole_width fields arrays s.fresh xs s.flanks s.ranges (map named_form items) (map form outputs) these those;
    }

pub returns-clause-items : goal.returns-clause-items
returns-clause-items c =
    let s = c.args.steps in
    let fields = length s.fields in
    let arrays = length s.arrays in
    let xs = map flank_form s.items in
    let items = c.in_ok-tables.field-0.items in
    let outputs = c.in_ok-outputs.outputs in
    let these : map named_form items ≡ (tabled fields arrays s.fresh xs).items = search rules in
    let those : map form outputs ≡ map operand_form (tabled fields arrays s.fresh xs).rows.fields = search rules in
    whole_named fields arrays s.fresh xs s.flanks s.ranges (map named_form items) (map form outputs) these those

pub returns-clause-outputs : goal.returns-clause-outputs
returns-clause-outputs c =
    let s = c.args.steps in
    let fields = length s.fields in
    let arrays = length s.arrays in
    let xs = map flank_form s.items in
    let items = c.in_ok-tables.field-0.items in
    let outputs = c.in_ok-outputs.outputs in
    let these : map named_form items ≡ (tabled fields arrays s.fresh xs).items = search rules in
    let those : map form outputs ≡ map operand_form (tabled fields arrays s.fresh xs).rows.fields = search rules in
    whole_ends fields arrays s.fresh xs s.flanks s.ranges (map named_form items) (map form outputs) these those

pub returns-clause-means : goal.returns-clause-means
returns-clause-means c =
    let s = c.args.steps in
    let fields = length s.fields in
    let arrays = length s.arrays in
    let xs = map flank_form s.items in
    let items = c.in_ok-tables.field-0.items in
    let outputs = c.in_ok-outputs.outputs in
    let these : map named_form items ≡ (tabled fields arrays s.fresh xs).items = search rules in
    let those : map form outputs ≡ map operand_form (tabled fields arrays s.fresh xs).rows.fields = search rules in
    whole_means fields arrays s.fresh xs s.flanks s.ranges (map named_form items) (map form outputs) these those

pub returns-clause-few : goal.returns-clause-few
returns-clause-few c =
    let s = c.args.steps in
    let fields = length s.fields in
    let arrays = length s.arrays in
    let xs = map flank_form s.items in
    let items = c.in_ok-tables.field-0.items in
    let outputs = c.in_ok-outputs.outputs in
    let these : map named_form items ≡ (tabled fields arrays s.fresh xs).items = search rules in
    let those : map form outputs ≡ map operand_form (tabled fields arrays s.fresh xs).rows.fields = search rules in
    whole_few fields arrays s.fresh xs s.flanks s.ranges (map named_form items) (map form outputs) these those c.requires s.few_fields
