-- What holds of items and outputs that are those of the walk over tables.
use Rattle.std.proofs.Common.{◌≡◌, ℕ, ◌^◌, ◌<◌, ◌≤◌, true, List, [], length, map, sym, ap, ◌∙◌, subst}
use Rattle.dom_words.specs.State.{AgreeUnder}
use Rattle.dom_ast.specs.Flanks.{FlankForm, are_flanked, flanked_outcome, flanks_nodes, flanks_within}
use Rattle.dom_ast.specs.Named.{NamedForm, are_in_order, are_named, are_outputs, makes_of, named_nodes, named_outcome}
use Rattle.dom_ast.specs.Resolved.{PartForm}
use Rattle.dom_ast.specs.Straight.{straight_ranges}
use Rattle.ssa_names.specs.Naming.{named, operand_form, outputs_of}
use Rattle.ssa_names.specs.inner.Tables.{tabled}
use Rattle.ssa_names.proofs.Kept.{named_items, named_outputs, named_width}
use Rattle.ssa_names.proofs.Means.{named_means}
use Rattle.ssa_names.proofs.Mirror.{tabled_items, tabled_outputs}
use Rattle.ssa_names.proofs.Sizes.{named_few}

module _ (fields arrays names : ℕ) (xs : List FlankForm) (flanks : are_flanked [] [] xs ≡ true) (inside : flanks_within (straight_ranges fields arrays names) xs ≡ true) (items : List NamedForm) (outputs : List PartForm) (these : items ≡ (tabled fields arrays names xs).items) (those : outputs ≡ map operand_form (tabled fields arrays names xs).rows.fields) where
  pub whole_named : items ≡ (named xs).items
  whole_named = these ∙ tabled_items fields arrays names xs inside

  pub whole_ends : outputs ≡ outputs_of fields (named xs)
  whole_ends = those ∙ tabled_outputs fields arrays names xs inside

  pub whole_items : are_named fields arrays [] items ≡ true
  whole_items =
      subst (λ (ys : List NamedForm). are_named fields arrays [] ys ≡ true) (sym whole_named) (named_items fields arrays names xs flanks inside).0

  pub whole_order : are_in_order items ≡ true
  whole_order = subst (λ (ys : List NamedForm). are_in_order ys ≡ true) (sym whole_named) (named_items fields arrays names xs flanks inside).1

  pub whole_outputs : are_outputs fields (makes_of items) outputs ≡ true
  whole_outputs =
      subst (λ (ys : List NamedForm). are_outputs fields (makes_of ys) outputs ≡ true) (sym whole_named) (subst (λ (os : List PartForm). are_outputs fields (makes_of (named xs).items) os ≡ true) (sym whole_ends) (named_outputs fields arrays names xs flanks inside))

  pub whole_width : length outputs ≡ fields
  whole_width = ap length whole_ends ∙ named_width fields arrays names xs

  pub whole_means : AgreeUnder (λ hash packet state. length packet ≡ fields) (λ hash. named_outcome hash items outputs) (λ hash. flanked_outcome hash xs)
  whole_means hash packet start size =
      ap (λ (ys : List NamedForm). named_outcome hash ys outputs packet start) whole_named
      ∙ ap (λ (os : List PartForm). named_outcome hash (named xs).items os packet start) whole_ends
      ∙ named_means hash packet start fields arrays names xs flanks inside size

  pub whole_few : flanks_nodes xs < 2 ^ 23 → fields ≤ 64 → named_nodes items outputs < 2 ^ 25
  whole_few few small =
      subst (λ (ys : List NamedForm). named_nodes ys outputs < 2 ^ 25) (sym whole_named) (subst (λ (os : List PartForm). named_nodes (named xs).items os < 2 ^ 25) (sym whole_ends) (named_few fields xs few small))
