-- The trees of a class.
use Rattle.std.specs.Prelude.{ℕ, zero, suc, ◌-◌, Bool, true, false, nat_eq, List, [], ◌∷◌, Option, Some, None, if◌then◌else◌}
use Rattle.std.specs.List.{list_all}
use Rattle.dom_flat.specs.declared.line.Operand.{Operand}
use Rattle.atom_traits.specs.declared.tree.Port.TheVariants as port
use Rattle.atom_traits.specs.declared.tree.Guard.{Guard}
use Rattle.atom_traits.specs.declared.tree.Leaf.TheVariants.{Keep, Put}
use Rattle.atom_traits.specs.Form.{TreeForm, Ends, Asks as Forks, TreesForm}
use Rattle.atom_match.specs.declared.found.Answer.{Answer}
use Rattle.atom_match.specs.declared.found.Answer.TheVariants.{Is, Other, Asks, Nothing}
use Rattle.atom_match.specs.declared.found.Found.{Found}
use Rattle.atom_match.specs.declared.found.Fact.{Fact}
use Rattle.atom_match.specs.declared.class.Flanks.{Flanks}
use Rattle.atom_match.specs.declared.class.View.{View}
use Rattle.atom_match.specs.Classes.{Class, in_class, is_outside, is_some_value, view_alone, view_first, view_second}
use Rattle.atom_match.specs.Rules.{nothing_found, found_as, operand_found, line_found_if}

module _ (c : Class) (view : View) where
  -- looking back from a value over at most n statements
  abbrev pub found_in : ℕ → List Fact → ℕ → Found
  found_in zero facts v = nothing_found
  found_in (suc n) facts v =
      if nat_eq v view.read then found_as view.state facts (Is Keep)
      else if is_some_value view.other v then found_as view.state facts Other
      else if in_class c v then line_found_if view.state facts (λ u. found_in n facts u) (c.line_of (v - c.fields))
      else found_as view.state facts (Is (Put (port.Container (c.container v))))

  -- a statement uses earlier values alone, so v + 1 steps are enough
  abbrev pub found : List Fact → ℕ → Found
  found facts v = found_in (suc v) facts v

  abbrev pub found_operand : List Fact → Operand → Found
  found_operand facts o = operand_found view.state facts (λ v. found facts v) o

abbrev pub fork_of : Guard → Option TreeForm → Option TreeForm → Option TreeForm
fork_of g (Some a) (Some b) = Some (Forks g a b)
fork_of g (Some a) None = None
fork_of g None b = None

abbrev pub fact : Guard → Bool → Fact
fact g b = record { guard = g; holds = b }

-- a leaf, or a fork on the question
abbrev pub tree_by : Answer → (Guard → Option TreeForm) → Option TreeForm
tree_by (Is leaf) fork = Some (Ends leaf)
tree_by Other fork = None
tree_by (Asks g) fork = fork g
tree_by Nothing fork = None

module _ (c : Class) (view : View) where
  -- the tree of an operand with at most d levels of forks
  abbrev pub tree_of : ℕ → List Fact → Operand → Option TreeForm
  tree_of zero facts o = tree_by (found_operand c view facts o).answer (λ g. None)
  tree_of (suc d) facts o =
      tree_by (found_operand c view facts o).answer (λ g. fork_of g (tree_of d (fact g true ∷ facts) o) (tree_of d (fact g false ∷ facts) o))

  -- the tree of what a slot's write flank stores; without one the word stays
  abbrev pub slot_tree : Option Operand → Option TreeForm
  slot_tree None = Some (Ends Keep)
  slot_tree (Some o) = tree_of 2 [] o

abbrev pub one_tree : Option TreeForm → Option TreesForm
one_tree None = None
one_tree (Some t) = Some (record { first = t; second = None })

abbrev pub both_trees : Option TreeForm → Option TreeForm → Option TreesForm
both_trees (Some t) (Some u) = Some (record { first = t; second = Some u })
both_trees (Some t) None = None
both_trees None u = None

-- one or two slots have trees
abbrev pub trees_at : Class → List Flanks → Option TreesForm
trees_at c [] = None
trees_at c (s ∷ []) = one_tree (slot_tree c (view_alone s) s.write)
trees_at c (s ∷ t ∷ []) = both_trees (slot_tree c (view_first s t) s.write) (slot_tree c (view_second s t) t.write)
trees_at c (s ∷ t ∷ u ∷ rest) = None

-- the trees of a class, where it has some
abbrev pub trees_of : Class → Option TreesForm
trees_of c = if list_all (λ s. is_outside c.fields c.members s.index) c.slots then trees_at c c.slots else None

-- trees that are there and fit
abbrev pub fits_if : (TreesForm → Bool) → Option TreesForm → Bool
fits_if fits None = false
fits_if fits (Some t) = fits t
