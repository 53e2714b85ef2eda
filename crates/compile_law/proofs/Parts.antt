-- What codelets and plan give: containers, arrays and stages of the atoms.
use Rattle.std.proofs.Common.{◌≡◌, ℕ, zero, suc, ◌+◌, ◌-◌, ◌<◌, ◌≤◌, Bool, true, false, nat_eq, nat_le, not, List, [], ◌∷◌, ◌++◌, Option, Some, None, map, refl, sym, ap, ◌∙◌, subst, arith, ◌≢◌, inl, inr, if◌then◌else◌}
use Rattle.std.specs.Prelude.{slice_get}
use Rattle.std.specs.List.{flat_map, AllByRecursion as Every}
use Rattle.std.specs.Option.{option_to_list}
use Rattle.std.proofs.lemmas.Bool.{and_from, eqb-true, le-leb}
use Rattle.dom_flat.specs.declared.line.Operand.{Operand}
use Rattle.dom_flat.specs.declared.line.Operand.TheVariants.{Value}
use Rattle.dom_flat.specs.declared.line.Line.{Line}
use Rattle.dom_flat.specs.declared.line.Line.TheVariants as line
use Rattle.dom_flat.specs.Lines.{IsQuiet, is_flank, stores_to, with_operands}
use Rattle.codelets.specs.declared.held.Held.{Held}
use Rattle.codelets.specs.Lists.{IsIn, AreDistinct, has}
use Rattle.codelets.specs.Linked.{Linked, is_so}
use Rattle.codelets.specs.Cut.{cut, has_flank, in_order, line_of, option_line, seen_by, uses_codelet}
use Rattle.codelets.specs.Held.{exports, held, old_and_new}
use Rattle.codelets.specs.Containers.{containers, holder, place}
use Rattle.codelets.specs.Answer.{option_place}
use Rattle.codelets.specs.Laws.{CodeletLaws, Source, SlotOf}
use Rattle.codelets.proofs.Lists.{in_map, map_in, in_flat, any_in, in_has, at_within}
use Rattle.codelets.proofs.Order.{every_at, every_from}
use Rattle.codelets.proofs.Classes.{at_so}
use Rattle.codelets.proofs.Twins.{line_low}
use Rattle.atom_match.specs.Classes.{is_outside}
use Rattle.atom_match.specs.Meaning.{Enters}
use Rattle.banzai_config.specs.declared.parts.PartSlot.{PartSlot}
use Rattle.banzai_config.specs.Named.{arrays_of, slot_targets, targets_of}
use Rattle.banzai_config.specs.Parts.{Atom, Stateless, Stateful}
use Rattle.compile_law.specs.Compiled.{Staged}
use Rattle.compile_law.proofs.Planned.{atom_slot, IsPartOf, IsPlanned, Known}
use Rattle.compile_law.proofs.Every.{distinct_first, distinct_right}
use Rattle.compile_law.proofs.Picked.{flat-map}

pub map_join : {X Y : Type 0} (f : X → Y) (xs ys : List X) → map f (xs ++ ys) ≡ map f xs ++ map f ys
map_join f [] ys = refl
map_join f (x ∷ xs) ys = ap (λ z. f x ∷ z) (map_join f xs ys)

pub flat_same : {X Y : Type 0} (f g : X → List Y) (xs : List X) → ((x : X) → IsIn x xs → f x ≡ g x) → flat_map f xs ≡ flat_map g xs
flat_same f g [] each = refl
flat_same f g (x ∷ xs) each = ap (λ z. z ++ flat_map f xs) (each x (inl refl)) ∙ ap (λ z. g x ++ z) (flat_same f g xs (λ y i. each y (inr i)))

nothing : {X : Type 0} (xs : List X) → ((x : X) → IsIn x xs → ⊥) → xs ≡ []
nothing [] none = refl
nothing (x ∷ xs) none = absurd (none x (inl refl))

pub distinct_in : {X : Type 0} (f : X → List ℕ) (xs : List X) (x : X) → IsIn x xs → AreDistinct (flat_map f xs) → AreDistinct (f x)
distinct_in f [] x i d = absurd i
distinct_in f (y ∷ xs) x (inl is) d = subst (λ z. AreDistinct (f z)) (sym is) (distinct_first (f y) (flat_map f xs) d)
distinct_in f (y ∷ xs) x (inr i) d = distinct_in f xs x i (distinct_right (f y) (flat_map f xs) d)

pub each_line : (Q : Line → Type 0) (lines : List Line) → ((k : ℕ) (l : Line) → slice_get lines k ≡ Some l → Q l) → Every Q lines
each_line Q [] each = tt
each_line Q (l ∷ lines) each = (each 0 l refl, each_line Q lines (λ k m e. each (suc k) m e))

module _ (P : Linked) where
  one_target : (o : Option ℕ) → option_to_list (option_place (cut P) o) ≡ map (place (cut P)) (option_to_list o)
  one_target None = refl
  one_target (Some v) = refl

  slot_targets_are : (hs : List Held) → flat_map slot_targets (map (atom_slot P) hs) ≡ map (place (cut P)) (flat_map old_and_new hs)
  slot_targets_are [] = refl
  slot_targets_are (h ∷ hs) =
      let f : ℕ → ℕ = place (cut P) in
      let a : List ℕ = option_to_list h.old in
      let b : List ℕ = option_to_list h.new in
      let r : List ℕ = flat_map old_and_new hs in
      let rest : List ℕ = flat_map slot_targets (map (atom_slot P) hs) in
      ap (λ (z : List ℕ). (z ++ option_to_list (option_place (cut P) h.new)) ++ rest) (one_target h.old)
      ∙ ap (λ (z : List ℕ). (map f a ++ z) ++ rest) (one_target h.new)
      ∙ ap (λ (z : List ℕ). (map f a ++ map f b) ++ z) (slot_targets_are hs)
      ∙ ap (λ (z : List ℕ). z ++ map f r) (sym (map_join f a b))
      ∙ sym (map_join f (a ++ b) r)

  arrays_of_slots : (hs : List Held) → map (λ (s : PartSlot). s.array) (map (atom_slot P) hs) ≡ map (λ (h : Held). h.array) hs
  arrays_of_slots [] = refl
  arrays_of_slots (h ∷ hs) = ap (λ (z : List ℕ). h.array ∷ z) (arrays_of_slots hs)

  pub exports_plain : (c : List ℕ) → has_flank (cut P) c ≡ false → exports (cut P) c ≡ map (λ b. P.fields + b) c
  exports_plain c e = ap (λ (t : Bool). if t then flat_map old_and_new (held (cut P) c) else map (λ b. P.fields + b) c) e

  pub exports_flank : (c : List ℕ) → has_flank (cut P) c ≡ true → exports (cut P) c ≡ flat_map old_and_new (held (cut P) c)
  exports_flank c e = ap (λ (t : Bool). if t then flat_map old_and_new (held (cut P) c) else map (λ b. P.fields + b) c) e

  -- a value of the codelet does not come from outside
  pub not_outside : (c : List ℕ) (a : ℕ) → IsIn a c → is_outside P.fields c (Value (P.fields + a)) ≡ false
  not_outside c a i =
      let late : nat_le P.fields (P.fields + a) ≡ true = le-leb P.fields (P.fields + a) (omega arith) in
      let back : P.fields + a - P.fields ≡ a = omega arith in
      ap not (and_from _ _ late (ap (has c) back ∙ in_has c a i))

module _ (P : Linked) (laws : CodeletLaws P) (depth : ℕ) (qs : List (Staged)) (plan : IsPlanned P depth qs) where
  pub in_all : (q : Staged) → IsIn q qs → IsIn q.members (cut P).all
  in_all q i = laws.ordered q.members (subst (λ (cs : List (List ℕ)). IsIn q.members cs) plan.members (in_map (λ (r : Staged). r.members) qs q i))

  pub atom_at : (q : Staged) → IsIn q qs → IsPartOf P q.members q.atom
  atom_at q i = every_at (λ (r : Staged). IsPartOf P r.members r.atom) qs q plan.atoms i

  pub staged_of : (c : List ℕ) → IsIn c (cut P).all → (q : Staged) × IsIn q qs × (c ≡ q.members)
  staged_of c i = map_in (λ (r : Staged). r.members) qs c (subst (λ (cs : List (List ℕ)). IsIn c cs) (sym plan.members) (laws.order c i))

  -- an atom writes the containers of what its codelet exports
  pub targets_are : (c : List ℕ) (atom : Atom) → IsPartOf P c atom → targets_of atom ≡ map (place (cut P)) (exports (cut P) c)
  targets_are c (Stateless a) (is, to_is) =
      ap (λ (t : ℕ). t ∷ []) to_is ∙ sym (ap (map (place (cut P))) (exports_plain P c is.stateless ∙ ap (map (λ b. P.fields + b)) is.only))
  targets_are c (Stateful a) (are, slots_are) =
      ap (flat_map slot_targets) slots_are ∙ slot_targets_are P (held (cut P) c) ∙ sym (ap (map (place (cut P))) (exports_flank P c are.stateful))

  pub back_of : (d : List ℕ) (v : ℕ) → IsIn d (cut P).all → IsIn v (exports (cut P) d) → holder (cut P) (place (cut P) v) ≡ v
  back_of d v i x = (laws.placed v (laws.export_has d v i x)).back

  -- an exported value's container is written by the atom of its codelet
  pub exporter : (d : List ℕ) (v : ℕ) → IsIn d (cut P).all → IsIn v (exports (cut P) d) → (r : Staged) × IsIn r qs × (d ≡ r.members) × IsIn (place (cut P) v) (targets_of r.atom)
  exporter d v i x =
      let s = staged_of d i in
      let there : IsIn v (exports (cut P) s.0.members) = subst (λ (e : List ℕ). IsIn v (exports (cut P) e)) s.2 x in
      (s.0, s.1, s.2, subst (λ (ts : List ℕ). IsIn (place (cut P) v) ts) (sym (targets_are s.0.members s.0.atom (atom_at s.0 s.1))) (in_map (place (cut P)) (exports (cut P) s.0.members) v there))

  pub field_back : (v : ℕ) → v < P.fields → holder (cut P) (place (cut P) v) ≡ v
  field_back v h = let f = laws.fields v h in ap (holder (cut P)) f.0 ∙ f.1

  -- what enters a codelet stands in its own container, which is right before the codelet's stage
  pub knows : (q : Staged) → IsIn q qs → (v : ℕ) → Enters P q.members v → (holder (cut P) (place (cut P) v) ≡ v) × Known P.fields qs (q.stage - 1) (place (cut P) v)
  knows q i v (inl h) = (field_back v h, inl (subst (λ (u : ℕ). u < P.fields) (sym (laws.fields v h).0) h))
  knows q i v (inr (d, j, uses, x)) =
      let r = exporter d v j x in
      let less : r.0.stage < q.stage = plan.later q r.0 i r.1 (subst (λ (e : List ℕ). uses_codelet (cut P) q.members e ≡ true) r.2 uses) in
      let before : r.0.stage ≤ q.stage - 1 = omega arith in
      (back_of d v j x, inr (r.0, r.1, before, r.3))

  pub within : (size : ℕ) → containers (cut P) ≤ size → (q : Staged) → IsIn q qs → Every (λ d. d < size) (targets_of q.atom)
  within size room q i = every_from (λ d. d < size) (targets_of q.atom) (λ d j.
      let k : IsIn d (map (place (cut P)) (exports (cut P) q.members)) = subst (λ (ts : List ℕ). IsIn d ts) (targets_are q.members q.atom (atom_at q i)) j in
      let m = map_in (place (cut P)) (exports (cut P) q.members) d k in
      let p : place (cut P) m.0 < containers (cut P) = (laws.placed m.0 (laws.export_has q.members m.0 (in_all q i) m.1)).within in
      let e : d ≡ place (cut P) m.0 = m.2 in
      omega arith)

  held_none : (c : List ℕ) → IsIn c (cut P).all → has_flank (cut P) c ≡ false → held (cut P) c ≡ []
  held_none c i e = nothing (held (cut P) c) (λ h j.
      let s = laws.slots c h i j in
      let some : has_flank (cut P) c ≡ true = any_in (is_so P is_flank) c s.at s.inside (at_so P is_flank s.at (line.Fetch h.array s.index_of) s.fetch) in
      cc (some, e))

  abbrev arrays_held : List ℕ → List ℕ
  arrays_held c = map (λ h. h.array) (held (cut P) c)

  pub owns_are : (c : List ℕ) → IsIn c (cut P).all → (atom : Atom) → IsPartOf P c atom → arrays_of atom ≡ arrays_held c
  owns_are c i (Stateless a) (is, to_is) = sym (ap (λ (hs : List Held). map (λ (h : Held). h.array) hs) (held_none c i is.stateless))
  owns_are c i (Stateful a) (are, slots_are) = ap (λ (ss : List PartSlot). map (λ (s : PartSlot). s.array) ss) slots_are ∙ arrays_of_slots P (held (cut P) c)

  owned_all : flat_map (λ (q : Staged). arrays_of q.atom) qs ≡ flat_map arrays_held (in_order (cut P))
  owned_all =
      flat_same (λ (q : Staged). arrays_of q.atom) (λ (q : Staged). arrays_held q.members) qs (λ q i. owns_are q.members (in_all q i) q.atom (atom_at q i))
      ∙ sym (flat-map arrays_held (λ (q : Staged). q.members) qs)
      ∙ ap (flat_map arrays_held) plan.members

  -- each array stands in one slot
  pub arrays_distinct : AreDistinct (flat_map (λ q. arrays_of q.atom) qs)
  arrays_distinct = subst AreDistinct (sym owned_all) laws.arrays

  pub held_distinct : (c : List ℕ) → IsIn c (cut P).all → AreDistinct (map (λ h. h.array) (held (cut P) c))
  held_distinct c i = distinct_in arrays_held (in_order (cut P)) c (laws.order c i) laws.arrays

  -- an array in no slot has no write flank
  pub quiet : (j : ℕ) → Every (λ a. a ≢ j) (flat_map (λ q. arrays_of q.atom) qs) → IsQuiet j P.lines
  quiet j ne = each_line (λ l. stores_to j l ≡ false) P.lines by_line
    where
      owned : (k a : ℕ) (i v : Operand) → slice_get P.lines k ≡ Some (line.Store a i v) → a ≢ j
      owned k a i v at =
          let w = laws.stored k a i v at in
          let here : IsIn a (arrays_held w.0) = subst (λ (x : ℕ). IsIn x (arrays_held w.0)) w.4 (in_map (λ (h : Held). h.array) (held (cut P) w.0) w.1 w.3) in
          let there : IsIn a (flat_map arrays_held (in_order (cut P))) = in_flat arrays_held (in_order (cut P)) w.0 a (laws.order w.0 w.2) here in
          every_at (λ (x : ℕ). x ≢ j) (flat_map (λ (q : Staged). arrays_of q.atom) qs) a ne (subst (λ (xs : List ℕ). IsIn a xs) (sym owned_all) there)

      by_line : (k : ℕ) (l : Line) → slice_get P.lines k ≡ Some l → stores_to j l ≡ false
      by_line k (line.Fetch a i) at = refl
      by_line k (line.Store a i v) at = by_case (nat_eq j a) refl
        where
          by_case : (b : Bool) → nat_eq j a ≡ b → b ≡ false
          by_case false e = refl
          by_case true e = absurd (owned k a i v at (sym (eqb-true j a e)))
      by_line k (line.Un op a) at = refl
      by_line k (line.Bin op a b) at = refl
      by_line k (line.Cond c a b) at = refl
      by_line k (line.Hash unit modulus args) at = refl

  pub fields_fit : P.fields ≤ containers (cut P)
  fields_fit = by_case P.fields refl
    where
      by_case : (n : ℕ) → P.fields ≡ n → n ≤ containers (cut P)
      by_case zero e = omega arith
      by_case (suc n) e =
          let h : n < P.fields = omega arith in
          let w : place (cut P) n < containers (cut P) = (laws.placed n (laws.field_has n h)).within in
          let p : place (cut P) n ≡ n = (laws.fields n h).0 in
          omega arith

module _ (P : Linked) (laws : CodeletLaws P) where
  -- the index of an array of a codelet comes from somewhere
  pub index_source : (c : List ℕ) (h : Held) → IsIn c (cut P).all → IsIn h (held (cut P) c) → Source P c h.index
  index_source c h ci hi =
      let s : SlotOf P c h = laws.slots c h ci hi in
      let its : Line = line.Fetch h.array (seen_by (cut P) s.at s.index_of) in
      let line_at : line_of (cut P) s.at ≡ Some its = line_low (cut P) s.at (at_within P.lines s.at (line.Fetch h.array s.index_of) s.fetch) ∙ ap (option_line (with_operands (seen_by (cut P) s.at))) s.fetch in
      subst (λ (o : Operand). Source P c o) (sym s.port) (laws.sources c s.at its (seen_by (cut P) s.at s.index_of) ci s.inside line_at (inl refl))
