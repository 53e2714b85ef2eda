use Rattle.std.proofs.Common.{◌≤◌, ◌+◌, ◌*◌, length, sym, ◌∙◌, subst, ap, arith, map}
use Rattle.codelets.specs.Linked.{Linked}
use Rattle.codelets.specs.Cut.{cut, lines_by_number, outer}
use Rattle.codelets.specs.Answer.{codelets}
use Rattle.codelets.specs.Containers.{holders}
use Rattle.codelets.specs.Flat.{linked_of}
use Rattle.codelets.specs.Leveled.{AreLeveled}
use Rattle.codelets.proofs.FlatLinked.{flat_linked, linked_rows}
use Rattle.codelets.proofs.Leveled.{are_leveled, codelets_few}
use Rattle.codelets.proofs.Tight.{containers_tight}
use Rattle.codelets.proofs.answer.condense.Goals as goal

pub invariant_of-result-clause-is_list : goal.invariant_of-result-clause-is_list
invariant_of-result-clause-is_list c =
    c.in_ok-list.ensures.list ∙ ap (λ (P : Linked). codelets (cut P)) (linked_rows c.args.flat c.args.graph.now c.requires.size c.requires.reach)

pub invariant_of-result-clause-is_table : goal.invariant_of-result-clause-is_table
invariant_of-result-clause-is_table c =
    c.in_ok-list.ensures.table ∙ ap (λ (P : Linked). lines_by_number (cut P)) (linked_rows c.args.flat c.args.graph.now c.requires.size c.requires.reach)

pub invariant_of-result-clause-is_values : goal.invariant_of-result-clause-is_values
invariant_of-result-clause-is_values c =
    c.in_ok-list.ensures.values ∙ ap (λ (P : Linked). holders (cut P)) (linked_rows c.args.flat c.args.graph.now c.requires.size c.requires.reach)

pub invariant_of-result-clause-is_outputs : goal.invariant_of-result-clause-is_outputs
invariant_of-result-clause-is_outputs c =
    c.in_ok-list.ensures.outputs ∙ ap (λ (P : Linked). map (outer (cut P)) c.args.flat.outputs) (linked_rows c.args.flat c.args.graph.now c.requires.size c.requires.reach)

pub invariant_of-result-clause-leveled : goal.invariant_of-result-clause-leveled
invariant_of-result-clause-leveled c =
    subst AreLeveled (sym (invariant_of-result-clause-is_list c)) (are_leveled (linked_of c.args.flat) (flat_linked c.args.flat))

pub invariant_of-result-clause-few_codelets : goal.invariant_of-result-clause-few_codelets
invariant_of-result-clause-few_codelets c =
    let most : length (codelets (cut (linked_of c.args.flat))) ≤ 2 * length c.args.flat.lines = codelets_few (linked_of c.args.flat) (flat_linked c.args.flat) in
    omega (arith, most, ap length (invariant_of-result-clause-is_list c), c.args.flat.few_lines)

pub invariant_of-result-clause-few_values : goal.invariant_of-result-clause-few_values
invariant_of-result-clause-few_values c =
    let most : length (holders (cut (linked_of c.args.flat))) ≤ length c.args.flat.fields + length c.args.flat.lines = containers_tight (linked_of c.args.flat) (flat_linked c.args.flat) in
    omega (arith, most, ap length (invariant_of-result-clause-is_values c))
