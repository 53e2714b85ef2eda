-- One step of the tree of an operand.
use Rattle.std.proofs.Common.{◌≡◌, ℕ, zero, suc, ◌-◌, ◌<◌, true, false, List, ◌∷◌, Option, Some, None, sym, ap, ◌∙◌, arith, sub-one}
use Rattle.dom_flat.specs.declared.line.Operand.{Operand}
use Rattle.atom_traits.specs.declared.tree.Guard.{Guard}
use Rattle.atom_traits.specs.declared.tree.Leaf.{Leaf}
use Rattle.atom_traits.specs.Form.{TreeForm, Ends}
use Rattle.atom_match.specs.declared.class.View.{View}
use Rattle.atom_match.specs.declared.found.Answer.{Answer}
use Rattle.atom_match.specs.declared.found.Answer.TheVariants.{Is, Other, Asks, Nothing}
use Rattle.atom_match.specs.declared.found.Fact.{Fact}
use Rattle.atom_match.specs.Classes.{Class}
use Rattle.atom_match.specs.Resolve.{found_operand, fork_of, fact, tree_by, tree_of}

tree_at : (c : Class) (view : View) (d : ℕ) (facts : List Fact) (o : Operand) (a : Answer) → (found_operand c view facts o).answer ≡ a → tree_of c view (suc d) facts o ≡ tree_by a (λ g. fork_of g (tree_of c view d (fact g true ∷ facts) o) (tree_of c view d (fact g false ∷ facts) o))
tree_at c view d facts o a e =
    ap (λ x. tree_by x (λ g. fork_of g (tree_of c view d (fact g true ∷ facts) o) (tree_of c view d (fact g false ∷ facts) o))) e

pub tree_leaf : (c : Class) (view : View) (d : ℕ) (facts : List Fact) (o : Operand) (l : Leaf) → (found_operand c view facts o).answer ≡ Is l → tree_of c view d facts o ≡ Some (Ends l)
tree_leaf c view zero facts o l e = ap (λ a. tree_by a (λ g. None)) e
tree_leaf c view (suc d) facts o l e = tree_at c view d facts o (Is l) e

pub tree_other : (c : Class) (view : View) (d : ℕ) (facts : List Fact) (o : Operand) → (found_operand c view facts o).answer ≡ Other → tree_of c view d facts o ≡ None
tree_other c view zero facts o e = ap (λ a. tree_by a (λ g. None)) e
tree_other c view (suc d) facts o e = tree_at c view d facts o Other e

pub tree_none : (c : Class) (view : View) (d : ℕ) (facts : List Fact) (o : Operand) → (found_operand c view facts o).answer ≡ Nothing → tree_of c view d facts o ≡ None
tree_none c view zero facts o e = ap (λ a. tree_by a (λ g. None)) e
tree_none c view (suc d) facts o e = tree_at c view d facts o Nothing e

pub tree_end : (c : Class) (view : View) (facts : List Fact) (o : Operand) (g : Guard) → (found_operand c view facts o).answer ≡ Asks g → tree_of c view 0 facts o ≡ None
tree_end c view facts o g e = ap (λ a. tree_by a (λ g. None)) e

pub tree_fork : (c : Class) (view : View) (d : ℕ) (facts : List Fact) (o : Operand) (g : Guard) → 0 < d → (found_operand c view facts o).answer ≡ Asks g → tree_of c view d facts o ≡ fork_of g (tree_of c view (d - 1) (fact g true ∷ facts) o) (tree_of c view (d - 1) (fact g false ∷ facts) o)
tree_fork c view zero facts o g h e = absurd (omega arith)
tree_fork c view (suc d) facts o g h e =
    tree_at c view d facts o (Asks g) e
    ∙ ap (λ n. fork_of g (tree_of c view n (fact g true ∷ facts) o) (tree_of c view n (fact g false ∷ facts) o)) (sym (sub-one (suc d)))

-- a fork, from what the two calls gave
pub fork_done : (c : Class) (view : View) (d : ℕ) (facts : List Fact) (o : Operand) (g : Guard) (fs gs : List Fact) (x y : Option TreeForm) → 0 < d
    → Asks g ≡ (found_operand c view facts o).answer
    → fs ≡ fact g true ∷ facts → gs ≡ fact g false ∷ facts
    → x ≡ tree_of c view (d - 1) fs o → y ≡ tree_of c view (d - 1) gs o
    → fork_of g x y ≡ tree_of c view d facts o
fork_done c view d facts o g fs gs x y h e k l i j =
    ap (λ (z : Option TreeForm). fork_of g z y) (i ∙ ap (λ (z : List Fact). tree_of c view (d - 1) z o) k)
    ∙ ap (fork_of g (tree_of c view (d - 1) (fact g true ∷ facts) o)) (j ∙ ap (λ (z : List Fact). tree_of c view (d - 1) z o) l)
    ∙ sym (tree_fork c view d facts o g h (sym e))
