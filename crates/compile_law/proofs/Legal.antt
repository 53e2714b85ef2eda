-- The containers of atoms differ, and none is a field's.
use Rattle.std.proofs.Common.{◌≡◌, ℕ, ◌+◌, ◌-◌, ◌<◌, ◌≤◌, Bool, true, false, not, ◌&&◌, nat_lt, List, [], ◌∷◌, ◌++◌, Option, Some, None, map, refl, sym, ap, ◌∙◌, subst, arith, ◌≢◌, ◌⊎◌, inl, inr}
use Rattle.std.specs.Prelude.{slice_get}
use Rattle.std.specs.List.{list_any, flat_map, range_with_len, AllByRecursion as Every}
use Rattle.std.specs.Option.{option_to_list}
use Rattle.std.proofs.lemmas.Bool.{and_parts, eq-eqb, cases_lt}
use Rattle.dom_flat.specs.declared.line.Operand.{Operand}
use Rattle.dom_flat.specs.declared.line.Operand.TheVariants.{Const, Value}
use Rattle.dom_flat.specs.declared.line.Line.TheVariants as line
use Rattle.dom_flat.specs.Lines.{is_fetch}
use Rattle.codelets.specs.declared.held.Held.{Held}
use Rattle.codelets.specs.Lists.{IsIn, AreDistinct, AreApart, has, meet}
use Rattle.codelets.specs.Linked.{Linked, IsLinked, is_so}
use Rattle.codelets.specs.Cut.{cut, has_flank, in_order}
use Rattle.codelets.specs.Held.{exports, held, old_and_new, is_new, is_shared, is_this, new_of, written}
use Rattle.codelets.specs.Containers.{containers, holders, place}
use Rattle.codelets.specs.Laws.{CodeletLaws, IsSingle, OldOf, SlotOf}
use Rattle.codelets.proofs.AllLaws.{codelet_laws}
use Rattle.codelets.proofs.Classes.{at_so}
use Rattle.codelets.proofs.Containers.{if_so_some}
use Rattle.codelets.proofs.Lists.{in_map, map_in, flat_in, append_in, in_range, any_in, meet_apart}
use Rattle.codelets.proofs.Order.{every_at, every_from}
use Rattle.codelets.proofs.Slots.{held_is}
use Rattle.banzai_config.specs.Named.{targets_of}
use Rattle.compile_law.specs.Compiled.{Staged}
use Rattle.compile_law.proofs.Planned.{IsPlanned}
use Rattle.compile_law.proofs.Parts.{exports_plain, exports_flank, in_all, atom_at, targets_are, within, held_distinct, flat_same}
use Rattle.compile_law.proofs.Picked.{distinct_append, flat-map}

some_item : (o : Option ℕ) (v : ℕ) → IsIn v (option_to_list o) → o ≡ Some v
some_item None v i = absurd i
some_item (Some w) v (inl is) = ap Some (sym is)
some_item (Some w) v (inr h) = absurd h

-- f keeps numbers of a list apart
distinct_map : (f : ℕ → ℕ) (xs : List ℕ) → ((v w : ℕ) → IsIn v xs → IsIn w xs → f v ≡ f w → v ≡ w) → AreDistinct xs → AreDistinct (map f xs)
distinct_map f [] one d = tt
distinct_map f (x ∷ xs) one d = (
  every_from (λ y. f x ≢ y) (map f xs) (λ y i e. let r = map_in f xs y i in every_at (λ z. x ≢ z) xs r.0 d.0 r.1 (one x r.0 (inl refl) (inr r.1) (e ∙ r.2))),
  distinct_map f xs (λ v w i j e. one v w (inr i) (inr j) e) d.1,
)

map_flat : {X : Type 0} (f : ℕ → ℕ) (g : X → List ℕ) (xs : List X) → flat_map (λ x. map f (g x)) xs ≡ map f (flat_map g xs)
map_flat f g [] = refl
map_flat f g (x ∷ xs) = ap (λ (z : List ℕ). map f (g x) ++ z) (map_flat f g xs) ∙ sym (join (g x) (flat_map g xs))
  where
    join : (us vs : List ℕ) → map f (us ++ vs) ≡ map f us ++ map f vs
    join [] vs = refl
    join (u ∷ us) vs = ap (λ (z : List ℕ). f u ∷ z) (join us vs)

module _ (P : Linked) (ok : IsLinked P) where
  laws : CodeletLaws P
  laws = codelet_laws P ok

  -- a new word's value: what is stored, no read flank's, and no earlier array's
  record IsNew (c : List ℕ) (array v : ℕ) : Type 0 where
    stores : written (cut P) c array ≡ Some (Value v)
    no_fetch : is_so P is_fetch (v - P.fields) ≡ false
    first : list_any (λ k. is_this v (written (cut P) c k)) (range_with_len 0 array) ≡ false

  is_false : (b : Bool) → not b ≡ true → b ≡ false
  is_false false e = refl
  is_false true e = absurd (cc)

  new_says : (c : List ℕ) (array v : ℕ) (w : Option Operand) → written (cut P) c array ≡ w → new_of (cut P) c array w ≡ Some v → IsNew c array v
  new_says c array v None is e = absurd (cc)
  new_says c array v (Some (Const k)) is e = absurd (cc)
  new_says c array v (Some (Value u)) is e =
      let r = if_so_some (is_new (cut P) c array u) u v e in
      let whole = and_parts (not (nat_lt u P.fields) && has c (u - P.fields)) _ r.0 in
      let rest = and_parts (not (is_so P is_fetch (u - P.fields))) _ whole.1 in
      let last = and_parts (is_shared (cut P) c u) _ rest.1 in
      let same : u ≡ v = sym r.1 in
      record {
        stores = is ∙ ap (λ (x : ℕ). Some (Value x)) same;
        no_fetch = subst (λ (x : ℕ). is_so P is_fetch (x - P.fields) ≡ false) same (is_false (is_so P is_fetch (u - P.fields)) rest.0);
        first = subst (λ (x : ℕ). list_any (λ k. is_this x (written (cut P) c k)) (range_with_len 0 array) ≡ false) same (is_false _ last.1);
      }

  module _ (c : List ℕ) (ci : IsIn c (cut P).all) where
    -- an old word's value is its array's read flank's
    old_says : (h : Held) (v : ℕ) → IsIn h (held (cut P) c) → h.old ≡ Some v → (b : ℕ) × (i : Operand) × (slice_get P.lines b ≡ Some (line.Fetch h.array i)) × (v ≡ P.fields + b)
    old_says h v hi e =
        let s : SlotOf P c h = laws.slots c h ci hi in
        (s.at, s.index_of, s.fetch, same h.old e s.olds ∙ s.reads)
      where
        same : (o : Option ℕ) → o ≡ Some v → OldOf P o h.read → v ≡ h.read
        same None e q = absurd (cc)
        same (Some w) e q = let is : w ≡ v = cc in sym is ∙ q

    its_new : (h : Held) (v : ℕ) → IsIn h (held (cut P) c) → h.new ≡ Some v → IsNew c h.array v
    its_new h v hi e =
        let r = held_is P ok c h hi in
        new_says c h.array v (written (cut P) c h.array) refl (sym (ap (λ (x : Held). x.new) r.4) ∙ e)

    old_not_new : (h g : Held) (v : ℕ) → IsIn h (held (cut P) c) → IsIn g (held (cut P) c) → h.old ≡ Some v → g.new ≡ Some v → ⊥
    old_not_new h g v hi gi e d =
        let o = old_says h v hi e in
        let n : IsNew c g.array v = its_new g v gi d in
        let at : v - P.fields ≡ o.0 = let is : v ≡ P.fields + o.0 = o.3 in omega arith in
        let fetches : is_so P is_fetch o.0 ≡ true = at_so P is_fetch o.0 (line.Fetch h.array o.1) o.2 in
        let not' : is_so P is_fetch o.0 ≡ false = subst (λ (x : ℕ). is_so P is_fetch x ≡ false) at n.no_fetch in
        cc (fetches, not')

    not_later : (h g : Held) (v : ℕ) → IsNew c h.array v → IsNew c g.array v → h.array < g.array → ⊥
    not_later h g v m n less =
        let stands : is_this v (written (cut P) c h.array) ≡ true = ap (is_this v) m.stores ∙ eq-eqb v v refl in
        let some : list_any (λ k. is_this v (written (cut P) c k)) (range_with_len 0 g.array) ≡ true =
        any_in (λ k. is_this v (written (cut P) c k)) (range_with_len 0 g.array) h.array (in_range 0 g.array h.array (omega arith) (omega (arith, less))) stands in
        let none : list_any (λ k. is_this v (written (cut P) c k)) (range_with_len 0 g.array) ≡ false = n.first in
        cc (some, none)

    -- a value is exported by one slot
    one_slot : (h g : Held) (v : ℕ) → IsIn h (held (cut P) c) → IsIn g (held (cut P) c) → IsIn v (old_and_new h) → IsIn v (old_and_new g) → h.array ≡ g.array
    one_slot h g v hi gi i j = by_case (append_in (option_to_list h.old) (option_to_list h.new) v i) (append_in (option_to_list g.old) (option_to_list g.new) v j)
      where
        by_case : IsIn v (option_to_list h.old) ⊎ IsIn v (option_to_list h.new) → IsIn v (option_to_list g.old) ⊎ IsIn v (option_to_list g.new) → h.array ≡ g.array
        by_case (inl a) (inl b) =
            let o = old_says h v hi (some_item h.old v a) in
            let p = old_says g v gi (some_item g.old v b) in
            let same : o.0 ≡ p.0 = let x : v ≡ P.fields + o.0 = o.3 in let y : v ≡ P.fields + p.0 = p.3 in omega arith in
            let lines : Some (line.Fetch h.array o.1) ≡ Some (line.Fetch g.array p.1) = sym o.2 ∙ ap (slice_get P.lines) same ∙ p.2 in
            cc
        by_case (inl a) (inr b) = absurd (old_not_new h g v hi gi (some_item h.old v a) (some_item g.new v b))
        by_case (inr a) (inl b) = absurd (old_not_new g h v gi hi (some_item g.old v b) (some_item h.new v a))
        by_case (inr a) (inr b) = by_order (cases_lt h.array g.array) (cases_lt g.array h.array)
          where
            m : IsNew c h.array v
            m = its_new h v hi (some_item h.new v a)

            n : IsNew c g.array v
            n = its_new g v gi (some_item g.new v b)

            by_order : (h.array < g.array) ⊎ (g.array ≤ h.array) → (g.array < h.array) ⊎ (h.array ≤ g.array) → h.array ≡ g.array
            by_order (inl less) q = absurd (not_later h g v m n less)
            by_order (inr p) (inl less) = absurd (not_later g h v n m less)
            by_order (inr p) (inr q) = omega arith

    slot_distinct : (h : Held) → IsIn h (held (cut P) c) → AreDistinct (old_and_new h)
    slot_distinct h hi = by_case h.old h.new refl refl
      where
        by_case : (o n : Option ℕ) → h.old ≡ o → h.new ≡ n → AreDistinct (option_to_list o ++ option_to_list n)
        by_case None None p q = tt
        by_case None (Some w) p q = (tt, tt)
        by_case (Some v) None p q = (tt, tt)
        by_case (Some v) (Some w) p q = (((λ e. old_not_new h h v hi hi p (q ∙ ap Some (sym e))), tt), (tt, tt))

    slots_distinct : (hs : List Held) → ((h : Held) → IsIn h hs → IsIn h (held (cut P) c)) → AreDistinct (map (λ h. h.array) hs) → AreDistinct (flat_map old_and_new hs)
    slots_distinct [] each d = tt
    slots_distinct (h ∷ hs) each d =
        distinct_append (old_and_new h) (flat_map old_and_new hs) (slot_distinct h (each h (inl refl))) (slots_distinct hs (λ g i. each g (inr i)) d.1)
        (every_from (λ v. Every (λ w. v ≢ w) (flat_map old_and_new hs)) (old_and_new h) (λ v i. every_from (λ w. v ≢ w) (flat_map old_and_new hs) (λ w j e.
        let r = flat_in old_and_new hs w j in
        let same : h.array ≡ r.0.array = one_slot h r.0 v (each h (inl refl)) (each r.0 (inr r.1)) i (subst (λ (x : ℕ). IsIn x (old_and_new r.0)) (sym e) r.2) in
        every_at (λ y. h.array ≢ y) (map (λ (g : Held). g.array) hs) r.0.array d.0 (in_map (λ (g : Held). g.array) hs r.0 r.1) same)))

  module _ (depth : ℕ) (qs : List (Staged)) (plan : IsPlanned P depth qs) where
    one_codelet_distinct : (c : List ℕ) → IsIn c (cut P).all → AreDistinct (exports (cut P) c)
    one_codelet_distinct c ci = by_case (has_flank (cut P) c) refl
      where
        by_case : (b : Bool) → has_flank (cut P) c ≡ b → AreDistinct (exports (cut P) c)
        by_case true e = subst AreDistinct (sym (exports_flank P c e)) (slots_distinct c ci (held (cut P) c) (λ h i. i) (held_distinct P laws depth qs plan c ci))
        by_case false e =
            let s : IsSingle P c = laws.single c ci e in
            subst AreDistinct (sym (exports_plain P c e ∙ ap (map (λ b. P.fields + b)) s.only)) (tt, tt)

    -- no value is exported twice
    exports_distinct : (cs : List (List ℕ)) → ((c : List ℕ) → IsIn c cs → IsIn c (cut P).all) → AreApart cs → AreDistinct (flat_map (exports (cut P)) cs)
    exports_distinct [] each apart = tt
    exports_distinct (c ∷ cs) each apart =
        distinct_append (exports (cut P) c) (flat_map (exports (cut P)) cs) (one_codelet_distinct c (each c (inl refl))) (exports_distinct cs (λ d i. each d (inr i)) apart.1)
        (every_from (λ v. Every (λ w. v ≢ w) (flat_map (exports (cut P)) cs)) (exports (cut P) c) (λ v i. every_from (λ w. v ≢ w) (flat_map (exports (cut P)) cs) (λ w j e.
        let r = flat_in (exports (cut P)) cs w j in
        let m = laws.made c v i in
        let n = laws.made r.0 w r.2 in
        let same : m.0 ≡ n.0 = let x : v ≡ P.fields + m.0 = m.2 in let y : w ≡ P.fields + n.0 = n.2 in omega arith in
        meet_apart c r.0 m.0 (every_at (λ d. meet c d ≡ false) cs r.0 apart.0 r.1) m.1 (subst (λ (x : ℕ). IsIn x r.0) (sym same) n.1))))

    targets_all : flat_map (λ q. targets_of q.atom) qs ≡ map (place (cut P)) (flat_map (exports (cut P)) (in_order (cut P)))
    targets_all =
        flat_same (λ (q : Staged). targets_of q.atom) (λ (q : Staged). map (place (cut P)) (exports (cut P) q.members)) qs
        (λ q i. targets_are P laws depth qs plan q.members q.atom (atom_at P laws depth qs plan q i))
        ∙ sym (flat-map (λ c. map (place (cut P)) (exports (cut P) c)) (λ (q : Staged). q.members) qs)
        ∙ ap (flat_map (λ c. map (place (cut P)) (exports (cut P) c))) plan.members
        ∙ map_flat (place (cut P)) (exports (cut P)) (in_order (cut P))

    -- no container is written twice
    pub targets_distinct : AreDistinct (flat_map (λ q. targets_of q.atom) qs)
    targets_distinct = subst AreDistinct (sym targets_all) (distinct_map (place (cut P)) (flat_map (exports (cut P)) (in_order (cut P)))
        (λ v w i j e. laws.places v w (has_place v i) (has_place w j) e)
        (exports_distinct (in_order (cut P)) laws.ordered laws.apart))
      where
        has_place : (v : ℕ) → IsIn v (flat_map (exports (cut P)) (in_order (cut P))) → IsIn v (holders (cut P))
        has_place v i = let r = flat_in (exports (cut P)) (in_order (cut P)) v i in laws.export_has r.0 v (laws.ordered r.0 r.1) r.2

    module _ (size : ℕ) (room : containers (cut P) ≤ size) where
      pub writes_late : (q : Staged) → IsIn q qs → Every (λ c. (P.fields ≤ c) × (c < size)) (targets_of q.atom)
      writes_late q i = every_from (λ c. (P.fields ≤ c) × (c < size)) (targets_of q.atom) (λ c j.
          let k : IsIn c (map (place (cut P)) (exports (cut P) q.members)) = subst (λ (ts : List ℕ). IsIn c ts) (targets_are P laws depth qs plan q.members q.atom (atom_at P laws depth qs plan q i)) j in
          let m = map_in (place (cut P)) (exports (cut P) q.members) c k in
          (late q i c m.0 m.1 m.2 (cases_lt c P.fields), every_at (λ d. d < size) (targets_of q.atom) c (within P laws depth qs plan size room q i) j))
        where
          late : (q : Staged) → IsIn q qs → (c v : ℕ) → IsIn v (exports (cut P) q.members) → c ≡ place (cut P) v → (c < P.fields) ⊎ (P.fields ≤ c) → P.fields ≤ c
          late q i c v x e (inr h) = h
          late q i c v x e (inl h) =
              let f = laws.fields c h in
              let same : c ≡ v = laws.places c v (laws.field_has c h) (laws.export_has q.members v (in_all P laws depth qs plan q i) x) (f.0 ∙ e) in
              let m = laws.made q.members v x in
              absurd (let is : v ≡ P.fields + m.0 = m.2 in omega arith)
