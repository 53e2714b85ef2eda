-- Atoms do what their codelets do.
use Rattle.std.proofs.Common.{◌≡◌, ℕ, suc, ◌+◌, ◌-◌, ◌<◌, ◌≤◌, Bool, true, false, not, ◌||◌, nat_eq, List, [], ◌∷◌, Option, Some, None, length, map, refl, sym, ap, ◌∙◌, subst, arith, inl, inr, if◌then◌else◌}
use Rattle.std.specs.Prelude.{slice_get, slice_index}
use Rattle.std.specs.List.{AllByRecursion as Every, filter, filter_map, flat_map, list_all}
use Rattle.std.proofs.lemmas.Bool.{and_parts, and_from, le-leb}
use Rattle.dom_flat.specs.declared.line.Operand.{Operand}
use Rattle.dom_flat.specs.declared.line.Operand.TheVariants as operand
use Rattle.dom_flat.specs.declared.line.Line.{Line}
use Rattle.dom_flat.specs.declared.line.Line.TheVariants as line
use Rattle.dom_flat.specs.Lines.{operands_of}
use Rattle.codelets.specs.declared.answer.Codelets.{Codelets}
use Rattle.codelets.specs.declared.codelet.Codelet.{Codelet}
use Rattle.codelets.specs.declared.codelet.Kind.{Kind}
use Rattle.codelets.specs.declared.codelet.Kind.TheVariants.{Stateless, Stateful}
use Rattle.codelets.specs.declared.codelet.Slot.{Slot}
use Rattle.codelets.specs.declared.held.Held.{Held}
use Rattle.codelets.specs.Lists.{IsIn, has}
use Rattle.codelets.specs.Cut.{Cut, has_flank, line_of}
use Rattle.codelets.specs.Flat.{cut_of, linked_of}
use Rattle.codelets.specs.Answer.{line_in}
use Rattle.codelets.specs.Held.{exports, held}
use Rattle.codelets.specs.Containers.{place}
use Rattle.codelets.specs.Laws.{IsSingle, Source, OfConst, OfField, Own, Other}
use Rattle.codelets.proofs.Lists.{filter_in, first_in, flat_in, has_in, in_filter, in_flat, in_has, in_kept, kept_in}
use Rattle.codelets.proofs.Order.{every_from}
use Rattle.atom_traits.specs.declared.operation.StatelessOp.{StatelessOp}
use Rattle.atom_traits.specs.declared.operation.StatelessOp.TheVariants as op
use Rattle.atom_traits.specs.Form.{TreeForm, TreesForm, count_of, two_of}
use Rattle.atom_traits.specs.Operation.{ports_of}
use Rattle.atom_traits.specs.Tests.{port_in, ports_in}
use Rattle.atom_match.specs.declared.class.Flanks.{Flanks}
use Rattle.atom_match.specs.Classes.{Class, class_of, container_of, flanks_at, in_class, is_outside, stored_by, view_alone, view_first, view_second, write_of}
use Rattle.atom_match.specs.Atoms.{AtomForm, Operates, Updates, atom_by, atom_of, codelet_operator, operator_if, operator_of, port_of}
use Rattle.atom_match.specs.Resolve.{both_trees, one_tree, slot_tree, trees_at, trees_of}
use Rattle.atom_match.specs.Meaning.{AreTreesOf, Enters, HasEntering, IsAtomOf, IsOperatorOf, MeansCodelet, stored_word}
use Rattle.atom_match.proofs.ClassMeaning.{ClassMakes, IsClosed, is_meant, is_meant_if}
use Rattle.atom_match.proofs.Given.{IsCodelet, all_from, has_state, its_codelet, laws, line_is, map_map, no_state}
use Rattle.atom_match.proofs.Named.{trees_named}
use Rattle.atom_match.proofs.Shown.{flanks_held, slots_are}
use Rattle.atom_match.proofs.Sound.{trees_mean}

-- which kind of atom it is
operates_by : (kind : Kind) (o : Option StatelessOp) (t : Option TreesForm) (p : StatelessOp) → atom_by kind o t ≡ Some (Operates p) → (kind ≡ Stateless) × (o ≡ Some p)
operates_by Stateless None t p e = absurd (cc)
operates_by Stateless (Some q) t p e = let same : q ≡ p = cc in (refl, ap Some same)
operates_by Stateful o None p e = absurd (cc)
operates_by Stateful o (Some t) p e = absurd (cc)

updates_by : (kind : Kind) (o : Option StatelessOp) (t : Option TreesForm) (u : TreesForm) → atom_by kind o t ≡ Some (Updates u) → (kind ≡ Stateful) × (t ≡ Some u)
updates_by Stateless None t u e = absurd (cc)
updates_by Stateless (Some q) t u e = absurd (cc)
updates_by Stateful o None u e = absurd (cc)
updates_by Stateful o (Some t) u e = let same : t ≡ u = cc in (refl, ap Some same)

-- the ports of an operator are its statement's operands
ports_are : (k : ℕ → ℕ) (l : Line) (o : StatelessOp) → operator_of k l ≡ Some o → ports_of o ≡ map (port_of k) (operands_of l)
ports_are k (line.Fetch a i) o e = absurd (cc)
ports_are k (line.Store a i v) o e = absurd (cc)
ports_are k (line.Un p a) o e = let same : op.Un p (port_of k a) ≡ o = cc in ap ports_of (sym same)
ports_are k (line.Bin p a b) o e = let same : op.Bin p (port_of k a) (port_of k b) ≡ o = cc in ap ports_of (sym same)
ports_are k (line.Cond c a b) o e = let same : op.Cond (port_of k c) (port_of k a) (port_of k b) ≡ o = cc in ap ports_of (sym same)
ports_are k (line.Hash unit modulus args) o e = let same : op.Hash unit modulus (map (port_of k) args) ≡ o = cc in ap ports_of (sym same)

all_ports : (r : ℕ → Bool) (k : ℕ → ℕ) (os : List Operand) → ((o : Operand) → IsIn o os → port_in r (port_of k o) ≡ true) → ports_in r (map (port_of k) os) ≡ true
all_ports r k [] h = refl
all_ports r k (o ∷ os) h = and_from _ _ (h o (inl refl)) (all_ports r k os (λ x i. h x (inr i)))

-- the value of an operand
abbrev value_of : Operand → Option ℕ
value_of (operand.Const w) = None
value_of (operand.Value v) = Some v

value_back : (o : Operand) (v : ℕ) → value_of o ≡ Some v → o ≡ operand.Value v
value_back (operand.Const w) v e = absurd (cc)
value_back (operand.Value u) v e = let same : u ≡ v = cc in ap operand.Value same

abbrev values_if : Option Line → List ℕ
values_if None = []
values_if (Some l) = filter_map value_of (operands_of l)

-- the values that a class's statements use and do not make
abbrev entering : Class → List ℕ
entering c = filter (λ v. not (in_class c v)) (flat_map (λ b. values_if (c.line_of b)) c.members)

not_true : (b : Bool) → not b ≡ true → b ≡ false
not_true true e = absurd (cc)
not_true false e = refl

used_meant : (c : Class) (b : ℕ) (l : Line) (o : Operand) → IsIn b c.members → c.line_of b ≡ Some l → IsIn o (operands_of l) → is_meant c (entering c) o ≡ true
used_meant c b l (operand.Const w) bc at i = refl
used_meant c b l (operand.Value v) bc at i = by_own (in_class c v) refl
  where
    by_own : (x : Bool) → in_class c v ≡ x → (x || has (entering c) v) ≡ true
    by_own true e = refl
    by_own false e =
        in_has (entering c) v (in_filter (λ u. not (in_class c u)) (flat_map (λ a. values_if (c.line_of a)) c.members) v
        (in_flat (λ a. values_if (c.line_of a)) c.members b v bc (subst (λ (z : Option Line). IsIn v (values_if z)) (sym at) (in_kept value_of (operands_of l) (operand.Value v) v i refl)))
        (ap not e))

-- a value that enters is used by a statement, which does not make it
entering_used : (c : Class) (v : ℕ) → IsIn v (entering c) → (b : ℕ) × (l : Line) × IsIn b c.members × (c.line_of b ≡ Some l) × IsIn (operand.Value v) (operands_of l) × (in_class c v ≡ false)
entering_used c v i =
    let r = filter_in (λ u. not (in_class c u)) (flat_map (λ a. values_if (c.line_of a)) c.members) v i in
    let b = flat_in (λ a. values_if (c.line_of a)) c.members v r.0 in
    let l = by_line (c.line_of b.0) refl b.2 in
    (b.0, l.0, b.1, l.1, l.2, not_true (in_class c v) r.1)
  where
    by_line : {b : ℕ} (o : Option Line) → c.line_of b ≡ o → IsIn v (values_if o) → (l : Line) × (c.line_of b ≡ Some l) × IsIn (operand.Value v) (operands_of l)
    by_line None e h = absurd h
    by_line (Some l) e h =
        let k = kept_in value_of (operands_of l) v h in
        (l, e, subst (λ (o : Operand). IsIn o (operands_of l)) (value_back k.0 v k.2) k.1)

-- the store of a class's array is a statement of the class
store_used : (array : ℕ) (l : Option Line) (o : Operand) → stored_by array l ≡ Some o → (m : Line) × (l ≡ Some m) × IsIn o (operands_of m)
store_used array None o e = absurd (cc)
store_used array (Some (line.Fetch a i)) o e = absurd (cc)
store_used array (Some (line.Store a i v)) o e = by_case (nat_eq a array) e
  where
    by_case : (b : Bool) → (if b then Some v else None) ≡ Some o → (m : Line) × (Some (line.Store a i v) ≡ Some m) × IsIn o (operands_of m)
    by_case true h = let same : v ≡ o = cc in (line.Store a i v, refl, inr (inl (sym same)))
    by_case false h = absurd (cc)
store_used array (Some (line.Un p a)) o e = absurd (cc)
store_used array (Some (line.Bin p a b)) o e = absurd (cc)
store_used array (Some (line.Cond c a b)) o e = absurd (cc)
store_used array (Some (line.Hash unit modulus args)) o e = absurd (cc)

write_meant : (cs : Codelets) (c : Codelet) (s : Slot) → is_meant_if (class_of cs c) (entering (class_of cs c)) (flanks_at cs c.lines s).write ≡ true
write_meant cs c s = by_write (write_of cs.table c.lines s.array) refl
  where
    by_write : (o : Option Operand) → write_of cs.table c.lines s.array ≡ o → is_meant_if (class_of cs c) (entering (class_of cs c)) o ≡ true
    by_write None e = refl
    by_write (Some o) e =
        let r = first_in (λ b. stored_by s.array (line_in cs.table b)) c.lines o e in
        let m = store_used s.array (line_in cs.table r.0) o r.2 in
        used_meant (class_of cs c) r.0 m.0 o r.1 m.1 m.2

slots_meant : (cs : Codelets) (c : Codelet) (slots : List Slot) → list_all (λ s. is_meant_if (class_of cs c) (entering (class_of cs c)) s.write) (map (flanks_at cs c.lines) slots) ≡ true
slots_meant cs c [] = refl
slots_meant cs c (s ∷ slots) = and_from _ _ (write_meant cs c s) (slots_meant cs c slots)

closed : (cs : Codelets) (c : Codelet) → IsClosed (class_of cs c) (entering (class_of cs c))
closed cs c = record {
  lines = λ b l h at plain. all_from (is_meant (class_of cs c) (entering (class_of cs c))) (operands_of l) (λ o i. used_meant (class_of cs c) b l o (has_in c.lines b h) at i);
  stores = slots_meant cs c c.slots;
}

-- where there are trees, indexes come from outside, and each slot has one
one_counts : (o : Option TreeForm) (t : TreesForm) → one_tree o ≡ Some t → 1 ≡ count_of t
one_counts None t e = absurd (cc)
one_counts (Some u) t e = let same : record { first = u; second = None } ≡ t = cc in ap count_of same

both_count : (o p : Option TreeForm) (t : TreesForm) → both_trees o p ≡ Some t → 2 ≡ count_of t
both_count None p t e = absurd (cc)
both_count (Some u) None t e = absurd (cc)
both_count (Some u) (Some w) t e = let same : record { first = u; second = Some w } ≡ t = cc in ap count_of same

slots_count : (c : Class) (slots : List Flanks) (t : TreesForm) → trees_at c slots ≡ Some t → length slots ≡ count_of t
slots_count c [] t e = absurd (cc)
slots_count c (s ∷ []) t e = one_counts (slot_tree c (view_alone s) s.write) t e
slots_count c (s ∷ u ∷ []) t e = both_count (slot_tree c (view_first s u) s.write) (slot_tree c (view_second s u) u.write) t e
slots_count c (s ∷ u ∷ w ∷ rest) t e = absurd (cc)

trees_there : (c : Class) (t : TreesForm) → trees_of c ≡ Some t → (list_all (λ s. is_outside c.fields c.members s.index) c.slots ≡ true) × (trees_at c c.slots ≡ Some t)
trees_there c t e = by_case (list_all (λ s. is_outside c.fields c.members s.index) c.slots) refl e
  where
    by_case : (b : Bool) → list_all (λ s. is_outside c.fields c.members s.index) c.slots ≡ b → (if b then trees_at c c.slots else None) ≡ Some t → (list_all (λ s. is_outside c.fields c.members s.index) c.slots ≡ true) × (trees_at c c.slots ≡ Some t)
    by_case true h k = (h, k)
    by_case false h k = absurd (cc)

length_map : {X Y : Type 0} (f : X → Y) (xs : List X) → length (map f xs) ≡ length xs
length_map f [] = refl
length_map f (x ∷ xs) = ap suc (length_map f xs)

outside_held : (fields : ℕ) (members : List ℕ) (hs : List Held) → list_all (λ s. is_outside fields members s.index) (map flanks_held hs) ≡ true → Every (λ h. is_outside fields members h.index ≡ true) hs
outside_held fields members [] e = tt
outside_held fields members (h ∷ hs) e = let p = and_parts _ _ e in (p.0, outside_held fields members hs p.1)

only_one : (a b : ℕ) → a < b → IsIn a (b ∷ []) → ⊥
only_one a b less (inl same) = omega arith
only_one a b less (inr none) = none

module _ (cs : Codelets) (c : Codelet) (is : IsCodelet cs c) where
  -- an operand that its codelet does not make enters it
  enters : (b v : ℕ) (l : Line) → IsIn b c.lines → line_of (cut_of cs.flat) b ≡ Some l → IsIn (operand.Value v) (operands_of l) → ((a : ℕ) → v ≡ length cs.flat.fields + a → IsIn a c.lines → ⊥) → Enters (linked_of cs.flat) c.lines v
  enters b v l bc at i strange = by_source ((laws cs).sources c.lines b l (operand.Value v) is.member bc at i)
    where
      by_source : Source (linked_of cs.flat) c.lines (operand.Value v) → Enters (linked_of cs.flat) c.lines v
      by_source (OfConst w e) = absurd (cc)
      by_source (OfField u e low) = let same : u ≡ v = cc in inl (subst (λ (x : ℕ). x < length cs.flat.fields) same low)
      by_source (Own a e ac) = let same : v ≡ length cs.flat.fields + a = cc in absurd (strange a same ac)
      by_source (Other d u e da uses out) = let same : u ≡ v = cc in inr (d, da, uses, subst (λ (x : ℕ). IsIn x (exports (cut_of cs.flat) d)) same out)

  container_is : (v : ℕ) → container_of cs.values v ≡ place (cut_of cs.flat) v
  container_is v = ap (λ (xs : List ℕ). container_of xs v) cs.is_values

  -- what enters the class enters the codelet
  class_enters : (v : ℕ) → IsIn v (entering (class_of cs c)) → Enters (linked_of cs.flat) c.lines v
  class_enters v i =
      let r = entering_used (class_of cs c) v i in
      enters r.0 v r.1 r.2 (sym (line_is cs r.0) ∙ r.3) r.4
      (λ a at ac. let le : length cs.flat.fields ≤ v = omega arith in
      let back : v - length cs.flat.fields ≡ a = omega arith in
      let own : in_class (class_of cs c) v ≡ true = and_from _ _ (le-leb (length cs.flat.fields) v le) (ap (has c.lines) back ∙ in_has c.lines a ac) in
      absurd (let none = r.5 in cc))

  module _ (flank : has_flank (cut_of cs.flat) c.lines ≡ true) (t : TreesForm) (there : trees_of (class_of cs c) ≡ Some t) where
    means : MeansCodelet (linked_of cs.flat) c.lines t
    means hash olds words val makes =
        let D : Cut = cut_of cs.flat in
        let slots = slots_are cs c is flank in
        let class_makes : ClassMakes hash (class_of cs c) (entering (class_of cs c)) olds words val = record {
          outside = every_from (λ v. slice_index words (container_of cs.values v) ≡ val v) (entering (class_of cs c)) (λ v i. ap (slice_index words) (container_is v) ∙ makes.outside v (class_enters v i));
          old = ap (map (λ (s : Flanks). val s.read)) slots ∙ map_map (λ (s : Flanks). val s.read) flanks_held (held D c.lines) ∙ makes.old;
          made = λ b l h at plain. makes.made b l (has_in c.lines b h) (sym (line_is cs b) ∙ at) plain;
        } in
        trees_mean (class_of cs c) (entering (class_of cs c)) (closed cs c) t there hash olds words val class_makes
        ∙ ap two_of (ap (map (λ (s : Flanks). stored_word s.write s.read val)) slots ∙ map_map (λ (s : Flanks). stored_word s.write s.read val) flanks_held (held D c.lines))

    pub are_trees : AreTreesOf (linked_of cs.flat) c.lines t
    are_trees =
        let D : Cut = cut_of cs.flat in
        let slots = slots_are cs c is flank in
        let p = trees_there (class_of cs c) t there in record {
          stateful = flank;
          slots = sym (length_map flanks_held (held D c.lines)) ∙ sym (ap length slots) ∙ slots_count (class_of cs c) (class_of cs c).slots t p.1;
          indexes = outside_held (length cs.flat.fields) c.lines (held D c.lines) (ap (list_all (λ (s : Flanks). is_outside (length cs.flat.fields) c.lines s.index)) (sym slots) ∙ p.0);
          means = means;
          reads = λ r holds. trees_named r (class_of cs c) (entering (class_of cs c)) (closed cs c) (λ v h. ap r (container_is v) ∙ holds v (class_enters v (has_in (entering (class_of cs c)) v h))) t there;
        }

  pub is_operator : has_flank (cut_of cs.flat) c.lines ≡ false → (o : StatelessOp) → codelet_operator cs c ≡ Some o → IsOperatorOf (linked_of cs.flat) c.lines o
  is_operator none o e =
      let D : Cut = cut_of cs.flat in
      let one = (laws cs).single c.lines is.member none in
      let first : c.first ≡ one.number = ap (λ (z : Codelet). z.first) is.whole ∙ ap (λ (xs : List ℕ). slice_index xs 0) one.only in
      let its : line_in cs.table c.first ≡ Some one.its = ap (line_in cs.table) first ∙ line_is cs one.number ∙ one.there in
      let here : operator_of (place D) one.its ≡ Some o = sym (ap (λ (xs : List ℕ). operator_of (container_of xs) one.its) cs.is_values) ∙ sym (ap (operator_if (container_of cs.values)) its) ∙ e in record {
        stateless = none;
        number = one.number;
        only = one.only;
        its = one.its;
        there = one.there;
        plain = one.plain;
        operator = here;
        reads = λ r holds. ap (ports_in r) (ports_are (place D) one.its o here) ∙ all_ports r (place D) (operands_of one.its) (operand_named one r holds);
      }
    where
      operand_named : (one : IsSingle (linked_of cs.flat) c.lines) (r : ℕ → Bool) → HasEntering (linked_of cs.flat) c.lines r → (x : Operand) → IsIn x (operands_of one.its) → port_in r (port_of (place (cut_of cs.flat)) x) ≡ true
      operand_named one r holds (operand.Const w) i = refl
      operand_named one r holds (operand.Value v) i =
          let bc : IsIn one.number c.lines = subst (λ (xs : List ℕ). IsIn one.number xs) (sym one.only) (inl refl) in
          holds v (enters one.number v one.its bc one.there i (λ a at ac.
          let before : a < one.number = (laws cs).earlier c.lines one.number a one.its is.member bc ac one.there (subst (λ (x : ℕ). IsIn (operand.Value x) (operands_of one.its)) at i) in
          only_one a one.number before (subst (λ (xs : List ℕ). IsIn a xs) one.only ac)))

-- the atom of each codelet does what the codelet does
pub atom_right : (cs : Codelets) (k : ℕ) (c : Codelet) (a : AtomForm) → slice_get cs.list k ≡ Some c → atom_of cs c ≡ Some a → IsAtomOf (linked_of cs.flat) c.lines a
atom_right cs k c (Operates o) e there =
    let p = operates_by c.kind (codelet_operator cs c) (trees_of (class_of cs c)) o there in
    let is = its_codelet cs k c e in
    is_operator cs c is (no_state cs c is p.0) o p.1
atom_right cs k c (Updates t) e there =
    let p = updates_by c.kind (codelet_operator cs c) (trees_of (class_of cs c)) t there in
    let is = its_codelet cs k c e in
    are_trees cs c is (has_state cs c is p.0) t p.1
