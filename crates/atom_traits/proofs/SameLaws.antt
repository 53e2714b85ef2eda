-- Trees mean the same on containers that agree where they are named.
use Rattle.std.specs.Prelude.{◌≡◌, ℕ, Bool, true, List, [], ◌∷◌, slice_index, if◌then◌else◌, Option, Some, None, refl}
use Rattle.std.proofs.Common.{sym, ap, ◌∙◌}
use Rattle.std.proofs.lemmas.Bool.{and_parts}
use Rattle.dom_words.specs.Operators.{bin_word}
use Rattle.dom_words.specs.declared.operators.BinOp.TheVariants as bin
use Rattle.atom_traits.specs.declared.tree.Port.{Port}
use Rattle.atom_traits.specs.declared.tree.Port.TheVariants as port
use Rattle.atom_traits.specs.declared.tree.Source.{Source}
use Rattle.atom_traits.specs.declared.tree.Source.TheVariants as source
use Rattle.atom_traits.specs.declared.tree.Guard.{Guard}
use Rattle.atom_traits.specs.declared.tree.Leaf.{Leaf}
use Rattle.atom_traits.specs.declared.tree.Leaf.TheVariants.{Keep, Put, Add, Sub}
use Rattle.atom_traits.specs.Form.{TreeForm, Ends, Asks, TreesForm, port_word, source_word, relates, guard_holds, leaf_word, word_of, second_word, words_of}
use Rattle.atom_traits.specs.Tests.{guard_passes, leaf_passes, second_passes, port_in, source_in, tree_names, trees_name}
use Rattle.atom_traits.specs.Renamed.{port_renamed, source_renamed, guard_renamed, leaf_renamed, tree_renamed, second_renamed, renamed}

-- the words at renamed containers are those that the containers had, where r holds
module _ (f : ℕ → ℕ) (r : ℕ → Bool) (old words after : List ℕ) (same : (c : ℕ) → r c ≡ true → slice_index after (f c) ≡ slice_index words c) where
  pub port_moves : (x : Port) → port_in r x ≡ true → port_word (port_renamed f x) after ≡ port_word x words
  port_moves (port.Const w) e = refl
  port_moves (port.Container c) e = same c e

  source_moves : (x : Source) → source_in r x ≡ true → source_word (source_renamed f x) old after ≡ source_word x old words
  source_moves (source.Const w) e = refl
  source_moves (source.Container c) e = same c e
  source_moves (source.State k) e = refl

  guard_moves : (g : Guard) → guard_passes (port_in r) (source_in r) g ≡ true → guard_holds (guard_renamed f g) old after ≡ guard_holds g old words
  guard_moves g e =
      let k = and_parts _ _ e in
      ap (λ x. relates g.rel x (source_word (source_renamed f g.right) old after)) (source_moves g.left k.0) ∙ ap (relates g.rel (source_word g.left old words)) (source_moves g.right k.1)

  leaf_moves : (l : Leaf) (own : ℕ) → leaf_passes (port_in r) (source_in r) l ≡ true → leaf_word (leaf_renamed f l) own after ≡ leaf_word l own words
  leaf_moves Keep own e = refl
  leaf_moves (Put x) own e = port_moves x e
  leaf_moves (Add x) own e = ap (bin_word bin.Add own) (port_moves x e)
  leaf_moves (Sub x) own e = ap (bin_word bin.Sub own) (port_moves x e)

  pub tree_moves : (t : TreeForm) (own : ℕ) → tree_names r t ≡ true → word_of (tree_renamed f t) own old after ≡ word_of t own old words
  tree_moves (Ends l) own e = leaf_moves l own e
  tree_moves (Asks g a b) own e =
      let k = and_parts _ _ e in let m = and_parts _ _ k.1 in
      ap (λ z. if z then word_of (tree_renamed f a) own old after else word_of (tree_renamed f b) own old after) (guard_moves g k.0)
      ∙ ap (λ x. if guard_holds g old words then x else word_of (tree_renamed f b) own old after) (tree_moves a own m.0)
      ∙ ap (λ x. if guard_holds g old words then word_of a own old words else x) (tree_moves b own m.1)

  second_moves : (t : Option TreeForm) → second_passes (port_in r) (source_in r) t ≡ true → second_word (second_renamed f t) old after ≡ second_word t old words
  second_moves None e = refl
  second_moves (Some t) e = tree_moves t (slice_index old 1) e

  -- renamed trees on renamed containers
  pub trees_move : (t : TreesForm) → trees_name r t ≡ true → words_of (renamed f t) old after ≡ words_of t old words
  trees_move t e =
      let k = and_parts _ _ e in
      ap (λ x. x ∷ second_word (second_renamed f t.second) old after ∷ []) (tree_moves t.first (slice_index old 0) k.0)
      ∙ ap (λ x. word_of t.first (slice_index old 0) old words ∷ x ∷ []) (second_moves t.second k.1)

-- nothing changes where no container does
pub port_stays : (x : Port) → port_renamed (λ c. c) x ≡ x
port_stays (port.Const w) = refl
port_stays (port.Container c) = refl

source_stays : (x : Source) → source_renamed (λ c. c) x ≡ x
source_stays (source.Const w) = refl
source_stays (source.Container c) = refl
source_stays (source.State k) = refl

guard_stays : (g : Guard) → guard_renamed (λ c. c) g ≡ g
guard_stays g =
    ap (λ x. let h : Guard = record { rel = g.rel; left = x; right = source_renamed (λ c. c) g.right } in h) (source_stays g.left)
    ∙ ap (λ x. let h : Guard = record { rel = g.rel; left = g.left; right = x } in h) (source_stays g.right)

leaf_stays : (l : Leaf) → leaf_renamed (λ c. c) l ≡ l
leaf_stays Keep = refl
leaf_stays (Put x) = ap Put (port_stays x)
leaf_stays (Add x) = ap Add (port_stays x)
leaf_stays (Sub x) = ap Sub (port_stays x)

pub tree_stays : (t : TreeForm) → tree_renamed (λ c. c) t ≡ t
tree_stays (Ends l) = ap Ends (leaf_stays l)
tree_stays (Asks g a b) =
    ap (λ x. Asks x (tree_renamed (λ c. c) a) (tree_renamed (λ c. c) b)) (guard_stays g)
    ∙ ap (λ x. Asks g x (tree_renamed (λ c. c) b)) (tree_stays a)
    ∙ ap (Asks g a) (tree_stays b)

second_stays : (t : Option TreeForm) → second_renamed (λ c. c) t ≡ t
second_stays None = refl
second_stays (Some t) = ap Some (tree_stays t)

pub trees_stay : (t : TreesForm) → renamed (λ c. c) t ≡ t
trees_stay t =
    ap (λ x. let h : TreesForm = record { first = x; second = second_renamed (λ c. c) t.second } in h) (tree_stays t.first)
    ∙ ap (λ x. let h : TreesForm = record { first = t.first; second = x } in h) (second_stays t.second)

-- the same trees on two lists of containers that agree where r holds
pub same_words : (r : ℕ → Bool) (old words after : List ℕ) → ((c : ℕ) → r c ≡ true → slice_index after c ≡ slice_index words c) → (t : TreesForm) → trees_name r t ≡ true → words_of t old after ≡ words_of t old words
same_words r old words after same t e =
    ap (λ x. words_of x old after) (sym (trees_stay t)) ∙ trees_move (λ c. c) r old words after same t e
