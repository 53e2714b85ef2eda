use Rattle.std.proofs.Common.{◌≡◌, ◌≤◌, true, sym, ap, ◌∙◌, subst}
use Rattle.dom_words.specs.State.{are_lengths, state_words}
use Rattle.dom_ast.specs.Resolved.{bodies_form}
use Rattle.branch_removal.proofs.Whole.{names_fit, steps_few, steps_keep, steps_mean, steps_names, steps_one_index, steps_within}
use Rattle.branch_removal.proofs.pass.remove.Goals as goal

pub steps_of-requires : goal.steps_of-requires
steps_of-requires c = names_fit _ _ (ap bodies_form c.bodies.ensures) c.requires.size

pub invariant_of-result-clause-lengths : goal.invariant_of-result-clause-lengths
invariant_of-result-clause-lengths c =
    subst (λ arrays. are_lengths arrays ≡ true) (sym (c.in_ok-arrays.ensures.same ∙ c.as_slice.ensures ∙ c.arrays.ensures)) c.args.program.now.lengths

pub invariant_of-result-clause-few_words : goal.invariant_of-result-clause-few_words
invariant_of-result-clause-few_words c =
    subst (λ arrays. state_words arrays ≤ 1048576) (sym (c.in_ok-arrays.ensures.same ∙ c.as_slice.ensures ∙ c.arrays.ensures)) c.args.program.now.few_words

pub invariant_of-result-clause-ranges : goal.invariant_of-result-clause-ranges
invariant_of-result-clause-ranges c =
    steps_within _ _ _ _ _ _ _ _ (record { list = c.in_ok-steps.ensures.list; same = ap bodies_form c.bodies.ensures }) (c.in_ok-fields.ensures ∙ c.fields.ensures) (c.in_ok-arrays.ensures.same ∙ c.as_slice.ensures ∙ c.arrays.ensures) c.in_ok-steps.ensures.fresh c.args.program.now.ranges

pub invariant_of-result-clause-one_index : goal.invariant_of-result-clause-one_index
invariant_of-result-clause-one_index c =
    steps_one_index _ _ _ (record { list = c.in_ok-steps.ensures.list; same = ap bodies_form c.bodies.ensures }) c.args.program.now.free_guards c.args.program.now.one_index

pub invariant_of-result-clause-kept_indexes : goal.invariant_of-result-clause-kept_indexes
invariant_of-result-clause-kept_indexes c =
    steps_keep _ _ _ (record { list = c.in_ok-steps.ensures.list; same = ap bodies_form c.bodies.ensures }) c.args.program.now.free_guards c.args.program.now.kept_indexes

pub returns-clause-means : goal.returns-clause-means
returns-clause-means c =
    λ hash packet state any. steps_mean _ _ _ _ _ (record { list = c.in_ok-steps.ensures.list; same = ap bodies_form c.bodies.ensures }) c.args.program.now.ranges hash packet state

pub returns-clause-few : goal.returns-clause-few
returns-clause-few c =
    steps_few _ _ _ (record { list = c.in_ok-steps.ensures.list; same = ap bodies_form c.bodies.ensures }) c.requires.size c.requires.nested

pub returns-clause-names : goal.returns-clause-names
returns-clause-names c =
    steps_names _ _ _ _ _ _ (record { list = c.in_ok-steps.ensures.list; same = ap bodies_form c.bodies.ensures }) c.in_ok-steps.ensures.fresh c.args.program.now.ranges
