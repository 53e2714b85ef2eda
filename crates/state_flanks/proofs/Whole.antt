-- What holds of a list that the tables gave.
use Rattle.std.proofs.Common.{◌≡◌, ℕ, ◌<◌, ◌≤◌, ◌^◌, true, false, List, [], ◌++◌, map, length, replicate, sym, ap, ◌∙◌, subst}
use Rattle.std.specs.Prelude.{None}
use Rattle.dom_words.specs.State.{Hash, IsStateOf, are_lengths}
use Rattle.dom_words.specs.declared.array.Array.{Array}
use Rattle.dom_ast.specs.Flanks.{FlankForm, are_flanked, flanked_outcome, flanks_nodes, flanks_within}
use Rattle.dom_ast.specs.Kept.{are_within, have_one_index, keep_indexes, mentions_in}
use Rattle.dom_ast.specs.Straight.{StepForm, step_visit, steps_nodes, straight_outcome, straight_ranges}
use Rattle.state_flanks.specs.inner.Tables.{new_writes, steps_noted, steps_reads}
use Rattle.state_flanks.specs.WithFlanks.{with_flanks, with_reads}
use Rattle.state_flanks.proofs.Between.{flanks_hold, with_flanks_within}
use Rattle.state_flanks.proofs.Ends.{means_same}
use Rattle.state_flanks.proofs.Lists.{reads_are, writes_are}
use Rattle.state_flanks.proofs.Sizes.{few_flanks}

-- the tables gave these items for the steps, whose numbers are in range
pub record Given (items : List FlankForm) (found ss : List StepForm) (xs : List Array) (count fields names : ℕ) : Type 0 where
  pub list : items ≡ steps_reads (replicate count false) found ++ new_writes 0 (steps_noted (replicate count None) found)
  pub steps_are : found ≡ ss
  pub count_is : count ≡ length xs
  pub within : are_within (straight_ranges fields (length xs) names) (map step_visit ss) ≡ true

module _ (items : List FlankForm) (found ss : List StepForm) (xs : List Array) (count fields names : ℕ) (given : Given items found ss xs count fields names) where
  pub list_is : items ≡ with_flanks xs ss
  list_is =
      given.list
      ∙ ap (λ n. steps_reads (replicate n false) found ++ new_writes 0 (steps_noted (replicate n None) found)) given.count_is
      ∙ ap (λ ts. steps_reads (replicate (length xs) false) ts ++ new_writes 0 (steps_noted (replicate (length xs) None) ts)) given.steps_are
      ∙ ap (λ reads. reads ++ new_writes 0 (steps_noted (replicate (length xs) None) ss)) (reads_are (straight_ranges fields (length xs) names) ss given.within)
      ∙ ap (λ writes. with_reads [] ss ++ writes) (writes_are xs ss)

  pub ranges_hold : flanks_within (straight_ranges fields (length xs) names) items ≡ true
  ranges_hold =
      subst (λ is. flanks_within (straight_ranges fields (length xs) names) is ≡ true) (sym list_is) (with_flanks_within (straight_ranges fields (length xs) names) xs ss given.within)

  pub are_between : have_one_index (mentions_in (map step_visit ss)) ≡ true → are_flanked [] [] items ≡ true
  are_between one = subst (λ is. are_flanked [] [] is ≡ true) (sym list_is) (flanks_hold xs ss one)

  pub items_mean : are_lengths xs ≡ true → have_one_index (mentions_in (map step_visit ss)) ≡ true → keep_indexes [] (map step_visit ss) ≡ true → (hash : Hash) (packet : List ℕ) (state : List (List ℕ)) → IsStateOf xs state → flanked_outcome hash items packet state ≡ straight_outcome hash ss packet state
  items_mean lengths one keep hash packet state is =
      ap (λ is. flanked_outcome hash is packet state) list_is
      ∙ means_same fields names xs ss lengths given.within one keep hash packet state is

  pub items_few : length xs ≤ 32 → steps_nodes ss < 4194304 → flanks_nodes items < 8388608
  items_few few_arrays few =
      let all : flanks_nodes (with_flanks xs ss) < 2 ^ 23 = few_flanks (straight_ranges fields (length xs) names) xs ss few_arrays few_arrays given.within few in
      subst (λ is. flanks_nodes is < 8388608) (sym list_is) all
