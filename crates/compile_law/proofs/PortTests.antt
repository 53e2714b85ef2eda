-- What an atom reads are constants and the containers of values that enter its codelet.
use Rattle.std.proofs.Common.{◌≡◌, ℕ, ◌+◌, ◌<◌, ◌≤◌, Bool, true, false, ◌&&◌, Option, Some, None, List, [], ◌∷◌, ◌++◌, map, refl, ap, ◌∙◌, arith, inl, inr}
use Rattle.std.specs.List.{flat_map, list_all}
use Rattle.std.proofs.lemmas.Bool.{and_from, and_parts}
use Rattle.dom_flat.specs.declared.line.Operand.{Operand}
use Rattle.codelets.specs.declared.held.Held.{Held}
use Rattle.codelets.specs.Containers.{containers, place}
use Rattle.codelets.specs.Cut.{cut}
use Rattle.codelets.specs.Held.{held}
use Rattle.codelets.specs.Laws.{CodeletLaws, Source, OfConst, OfField, Own, Other}
use Rattle.codelets.specs.Linked.{Linked, IsLinked}
use Rattle.codelets.specs.Lists.{IsIn}
use Rattle.codelets.proofs.AllLaws.{codelet_laws}
use Rattle.codelets.proofs.Order.{every_at}
use Rattle.atom_traits.specs.declared.tree.Guard.{Guard}
use Rattle.atom_traits.specs.declared.tree.Leaf.{Leaf}
use Rattle.atom_traits.specs.declared.tree.Leaf.TheVariants as leaf
use Rattle.atom_traits.specs.declared.tree.Port.{Port}
use Rattle.atom_traits.specs.declared.tree.Port.TheVariants as port
use Rattle.atom_traits.specs.declared.tree.Source.{Source as GuardSource}
use Rattle.atom_traits.specs.declared.tree.Source.TheVariants as source
use Rattle.atom_traits.specs.Form.{TreeForm, Ends, Asks, TreesForm}
use Rattle.atom_traits.specs.Operation.{ports_of}
use Rattle.atom_traits.specs.Tests.{guard_passes, leaf_passes, port_in, ports_in, second_passes, source_in, tree_names, trees_name}
use Rattle.atom_match.specs.Atoms.{port_of}
use Rattle.atom_match.specs.Classes.{is_outside}
use Rattle.atom_match.specs.Meaning.{Enters, HasEntering}
use Rattle.banzai_config.specs.declared.parts.PartSlot.{PartSlot}
use Rattle.banzai_config.specs.Named.{guard_reads, leaf_reads, port_reads, reads_of, second_reads, slot_reads, source_reads, tree_reads, trees_reads}
use Rattle.banzai_config.specs.Parts.{Atom, Stateless, Stateful}
use Rattle.compile_law.specs.Compiled.{Staged}
use Rattle.compile_law.proofs.Parts.{atom_at, in_all, index_source, not_outside}
use Rattle.compile_law.proofs.Planned.{atom_slot, IsPartOf, IsPlanned}

module _ (r : ℕ → Bool) where
  all_join : (xs ys : List ℕ) → list_all r xs ≡ true → list_all r ys ≡ true → list_all r (xs ++ ys) ≡ true
  all_join [] ys p q = q
  all_join (x ∷ xs) ys p q = let h = and_parts (r x) (list_all r xs) p in and_from (r x) (list_all r (xs ++ ys)) h.0 (all_join xs ys h.1 q)

  pub port_pass : (p : Port) → port_in r p ≡ true → list_all r (port_reads p) ≡ true
  port_pass (port.Const w) e = refl
  port_pass (port.Container c) e = and_from (r c) true e refl

  ports_pass : (ps : List Port) → ports_in r ps ≡ true → list_all r (flat_map port_reads ps) ≡ true
  ports_pass [] e = refl
  ports_pass (p ∷ ps) e = let h = and_parts (port_in r p) (ports_in r ps) e in all_join (port_reads p) (flat_map port_reads ps) (port_pass p h.0) (ports_pass ps h.1)

  source_pass : (s : GuardSource) → source_in r s ≡ true → list_all r (source_reads s) ≡ true
  source_pass (source.Const w) e = refl
  source_pass (source.Container c) e = and_from (r c) true e refl
  source_pass (source.State k) e = refl

  guard_pass : (g : Guard) → guard_passes (port_in r) (source_in r) g ≡ true → list_all r (guard_reads g) ≡ true
  guard_pass g e =
      let h = and_parts (source_in r g.left) (source_in r g.right) e in
      all_join (source_reads g.left) (source_reads g.right) (source_pass g.left h.0) (source_pass g.right h.1)

  leaf_pass : (l : Leaf) → leaf_passes (port_in r) (source_in r) l ≡ true → list_all r (leaf_reads l) ≡ true
  leaf_pass leaf.Keep e = refl
  leaf_pass (leaf.Put p) e = port_pass p e
  leaf_pass (leaf.Add p) e = port_pass p e
  leaf_pass (leaf.Sub p) e = port_pass p e

  tree_pass : (t : TreeForm) → tree_names r t ≡ true → list_all r (tree_reads t) ≡ true
  tree_pass (Ends l) e = leaf_pass l e
  tree_pass (Asks g on_yes on_no) e =
      let h = and_parts (guard_passes (port_in r) (source_in r) g) (tree_names r on_yes && tree_names r on_no) e in
      let k = and_parts (tree_names r on_yes) (tree_names r on_no) h.1 in
      all_join (guard_reads g) (tree_reads on_yes ++ tree_reads on_no) (guard_pass g h.0) (all_join (tree_reads on_yes) (tree_reads on_no) (tree_pass on_yes k.0) (tree_pass on_no k.1))

  second_pass : (t : Option TreeForm) → second_passes (port_in r) (source_in r) t ≡ true → list_all r (second_reads t) ≡ true
  second_pass None e = refl
  second_pass (Some t) e = tree_pass t e

  trees_pass : (t : TreesForm) → trees_name r t ≡ true → list_all r (trees_reads t) ≡ true
  trees_pass t e =
      let h = and_parts (tree_names r t.first) (second_passes (port_in r) (source_in r) t.second) e in
      all_join (tree_reads t.first) (second_reads t.second) (tree_pass t.first h.0) (second_pass t.second h.1)

module _ (P : Linked) (ok : IsLinked P) where
  laws : CodeletLaws P
  laws = codelet_laws P ok

  -- the index of an array of a codelet
  index_in : (r : ℕ → Bool) (c : List ℕ) → HasEntering P c r → IsIn c (cut P).all → (h : Held) → IsIn h (held (cut P) c) → is_outside P.fields c h.index ≡ true → port_in r (port_of (place (cut P)) h.index) ≡ true
  index_in r c holds ci h hi outside = by_source (index_source P laws c h ci hi)
    where
      by_source : Source P c h.index → port_in r (port_of (place (cut P)) h.index) ≡ true
      by_source (OfConst w e) = ap (λ (o : Operand). port_in r (port_of (place (cut P)) o)) e
      by_source (OfField v e low) = ap (λ (o : Operand). port_in r (port_of (place (cut P)) o)) e ∙ holds v (inl low)
      by_source (Own a e i) = absurd (let own : is_outside P.fields c h.index ≡ false = ap (is_outside P.fields c) e ∙ not_outside P c a i in cc (own, outside))
      by_source (Other d v e i uses x) = ap (λ (o : Operand). port_in r (port_of (place (cut P)) o)) e ∙ holds v (inr (d, i, uses, x))

  slots_pass : (r : ℕ → Bool) (hs : List Held) → ((h : Held) → IsIn h hs → port_in r (port_of (place (cut P)) h.index) ≡ true) → list_all r (flat_map slot_reads (map (atom_slot P) hs)) ≡ true
  slots_pass r [] each = refl
  slots_pass r (h ∷ hs) each =
      all_join r (port_reads (port_of (place (cut P)) h.index)) (flat_map slot_reads (map (atom_slot P) hs)) (port_pass r (port_of (place (cut P)) h.index) (each h (inl refl))) (slots_pass r hs (λ g i. each g (inr i)))

  module _ (depth : ℕ) (qs : List Staged) (plan : IsPlanned P depth qs) where
    -- each container that an atom reads passes a test that the containers of all values pass which enter its codelet
    pub reads_pass : (q : Staged) → IsIn q qs → (r : ℕ → Bool) → HasEntering P q.members r → list_all r (reads_of q.atom) ≡ true
    reads_pass q i r holds = by_atom q.atom (atom_at P laws depth qs plan q i)
      where
        by_atom : (atom : Atom) → IsPartOf P q.members atom → list_all r (reads_of atom) ≡ true
        by_atom (Stateless a) (is, to_is) = ports_pass r (ports_of a.op) (is.reads r holds)
        by_atom (Stateful a) (are, slots_are) =
            all_join r (flat_map slot_reads a.slots) (trees_reads a.trees)
            (ap (λ (ss : List PartSlot). list_all r (flat_map slot_reads ss)) slots_are
            ∙ slots_pass r (held (cut P) q.members) (λ h hi. index_in r q.members holds (in_all P laws depth qs plan q i) h hi (every_at (λ (g : Held). is_outside P.fields q.members g.index ≡ true) (held (cut P) q.members) h are.indexes hi)))
            (trees_pass r a.trees (are.reads r holds))

    -- the container of a value that enters is there
    pub enters_below : (size : ℕ) → containers (cut P) ≤ size → (c : List ℕ) (v : ℕ) → Enters P c v → place (cut P) v < size
    enters_below size room c v (inl low) = let w : place (cut P) v < containers (cut P) = (laws.placed v (laws.field_has v low)).within in omega (arith, w, room)
    enters_below size room c v (inr (d, j, uses, x)) = let w : place (cut P) v < containers (cut P) = (laws.placed v (laws.export_has d v j x)).within in omega (arith, w, room)
