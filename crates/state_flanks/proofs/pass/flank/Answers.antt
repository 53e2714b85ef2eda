use Rattle.std.proofs.Common.{map, ap}
use Rattle.dom_ast.specs.Straight.{step_form}
use Rattle.state_flanks.proofs.Whole.{are_between, items_few, items_mean, list_is, ranges_hold}
use Rattle.state_flanks.proofs.pass.flank.Goals as goal

pub invariant_of-result-clause-ranges : goal.invariant_of-result-clause-ranges
invariant_of-result-clause-ranges c =
    ranges_hold _ _ _ _ _ _ _ (record { list = c.in_ok-items.ensures; steps_are = ap (map step_form) c.into_vec.ensures; count_is = c.len-count.ensures; within = c.args.steps.ranges })

pub invariant_of-result-clause-flanks : goal.invariant_of-result-clause-flanks
invariant_of-result-clause-flanks c =
    are_between _ _ _ _ _ _ _ (record { list = c.in_ok-items.ensures; steps_are = ap (map step_form) c.into_vec.ensures; count_is = c.len-count.ensures; within = c.args.steps.ranges }) c.args.steps.one_index

pub returns-clause-list : goal.returns-clause-list
returns-clause-list c =
    list_is _ _ _ _ _ _ _ (record { list = c.in_ok-items.ensures; steps_are = ap (map step_form) c.into_vec.ensures; count_is = c.len-count.ensures; within = c.args.steps.ranges })

pub returns-clause-means : goal.returns-clause-means
returns-clause-means c =
    items_mean _ _ _ _ _ _ _ (record { list = c.in_ok-items.ensures; steps_are = ap (map step_form) c.into_vec.ensures; count_is = c.len-count.ensures; within = c.args.steps.ranges }) c.args.steps.lengths c.args.steps.one_index c.args.steps.kept_indexes

pub returns-clause-few : goal.returns-clause-few
returns-clause-few c =
    items_few _ _ _ _ _ _ _ (record { list = c.in_ok-items.ensures; steps_are = ap (map step_form) c.into_vec.ensures; count_is = c.len-count.ensures; within = c.args.steps.ranges }) c.args.steps.few_arrays c.requires.few
