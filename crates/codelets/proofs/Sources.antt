-- What a codelet uses from outside, another codelet exports.
use Rattle.std.proofs.Common.{◌≡◌, ℕ, zero, suc, ◌+◌, ◌-◌, ◌<◌, Bool, true, false, not, ◌&&◌, nat_lt, List, [], ◌∷◌, Option, Some, None, map, refl, sym, ap, ◌∙◌, subst, arith, ◌⊎◌, inl, inr, if◌then◌else◌}
use Rattle.std.specs.Prelude.{slice_get}
use Rattle.std.specs.List.{list_any, range_with_len, flat_map}
use Rattle.std.specs.Option.{option_to_list}
use Rattle.std.proofs.lemmas.Bool.{and_from, or_left, or_right, eq-eqb, le-ltb}
use Rattle.dom_flat.specs.declared.line.Operand.{Operand}
use Rattle.dom_flat.specs.declared.line.Operand.TheVariants.{Value}
use Rattle.dom_flat.specs.declared.line.Line.{Line}
use Rattle.dom_flat.specs.declared.line.Line.TheVariants as line
use Rattle.dom_flat.specs.Lines.{is_fetch, is_flank, is_value, makes, operands_of, stores}
use Rattle.codelets.specs.Lists.{IsIn, has, meet}
use Rattle.codelets.specs.Linked.{Linked, IsLinked, class_of, count, holds_for, is_inner, is_so, is_stateful, is_written, together, twins_of, uses_value}
use Rattle.codelets.specs.Cut.{cut, has_flank, line_of, line_uses, outer, uses_codelet}
use Rattle.codelets.specs.Held.{Held, exports, held, if_so, is_new, is_shared, is_this, new_of, old_and_new, written}
use Rattle.codelets.specs.Laws.{Source, OfConst, OfField, Own, Other, Shown, ShownConst, ShownField, ShownValue}
use Rattle.codelets.proofs.Lists.{any_in, in_any, in_left, in_right, in_flat, in_map, in_has, in_none, meet_none, range_in, at_within}
use Rattle.codelets.proofs.Given.{in_uses}
use Rattle.codelets.proofs.Classes.{Shape, Class, Twin, shape_of, in_class, class_in, first_codelet, twin_codelet, codelet_with, one_codelet, so_at, at_so, is_value_true, together_back}
use Rattle.codelets.proofs.Ports.{IsPlain, Port, Fixed, Entered, Inside, Outside, OfTwin, TwinPort, FixedT, EnteredT, OutsideT, OfTwinT, ShownPort, FixedS, EnteredS, OutsideS, OfTwinS, line_port, twin_line_port, shown_port, seen_inside}
use Rattle.codelets.proofs.Slots.{fetched_by, held_in, written_at, written_from, read_beside, whole_class, same_class}

is_this_true : (v : ℕ) (o : Option Operand) → is_this v o ≡ true → o ≡ Some (Value v)
is_this_true v None e = absurd (cc)
is_this_true v (Some o) e = ap Some (is_value_true v o e)

fetch_of_flank : (l : Line) → is_flank l ≡ true → makes l ≡ true → (a : ℕ) × (i : Operand) × (l ≡ line.Fetch a i)
fetch_of_flank (line.Fetch a i) f m = (a, i, refl)
fetch_of_flank (line.Store a i v) f m = absurd (cc)
fetch_of_flank (line.Un op a) f m = absurd (cc)
fetch_of_flank (line.Bin op a b) f m = absurd (cc)
fetch_of_flank (line.Cond c a b) f m = absurd (cc)
fetch_of_flank (line.Hash unit modulus args) f m = absurd (cc)

store_of : (v : ℕ) (l : Line) → stores v l ≡ true → (a : ℕ) × (i : Operand) × (l ≡ line.Store a i (Value v))
store_of v (line.Fetch a i) e = absurd (cc)
store_of v (line.Store a i w) e = (a, i, ap (line.Store a i) (is_value_true v w e))
store_of v (line.Un op a) e = absurd (cc)
store_of v (line.Bin op a b) e = absurd (cc)
store_of v (line.Cond c a b) e = absurd (cc)
store_of v (line.Hash unit modulus args) e = absurd (cc)

plain_fetch : (l : Line) → is_flank l ≡ false → is_fetch l ≡ false
plain_fetch (line.Fetch a i) e = absurd (cc)
plain_fetch (line.Store a i v) e = refl
plain_fetch (line.Un op a) e = refl
plain_fetch (line.Bin op a b) e = refl
plain_fetch (line.Cond c a b) e = refl
plain_fetch (line.Hash unit modulus args) e = refl

-- a statement that makes a value and is no read flank is no flank
no_fetch_no_flank : (l : Line) → makes l ≡ true → is_flank l ≡ false ⊎ ((a : ℕ) × (i : Operand) × (l ≡ line.Fetch a i))
no_fetch_no_flank (line.Fetch a i) m = inr (a, i, refl)
no_fetch_no_flank (line.Store a i v) m = absurd (cc)
no_fetch_no_flank (line.Un op a) m = inl refl
no_fetch_no_flank (line.Bin op a b) m = inl refl
no_fetch_no_flank (line.Cond c a b) m = inl refl
no_fetch_no_flank (line.Hash unit modulus args) m = inl refl

module _ (P : Linked) (ok : IsLinked P) where
  -- the class of any of its statements has a flank where the codelet has one
  stateful_member : (c : List ℕ) (a : ℕ) → IsIn c (cut P).all → IsIn a c → a < count P → has_flank (cut P) c ≡ true → is_stateful P a ≡ true
  stateful_member c a ci ac an e =
      let r = in_any (is_so P is_flank) c e in
      let l = so_at P is_flank r.0 r.2 in
      let bn = at_within P.lines r.0 l.0 l.1 in
      any_in (is_so P is_flank) (class_of P a) r.0 (in_class P a r.0 bn (same_class P ok c a r.0 ci ac r.1 an bn)) r.2

  -- a value of a class with flanks that is no inner value is an old one or a written one
  old_or_written : (a : ℕ) → is_stateful P a ≡ true → is_inner P a ≡ false → (is_so P is_flank a ≡ true) ⊎ (is_written P a ≡ true)
  old_or_written a s e = by_case (is_stateful P a) (is_so P is_flank a) (is_written P a) s e
    where
      by_case : (x y z : Bool) → x ≡ true → (x && (not y && not z)) ≡ false → (y ≡ true) ⊎ (z ≡ true)
      by_case true true z p q = inl refl
      by_case true false true p q = inr refl
      by_case true false false p q = absurd (cc)
      by_case false y z p q = absurd (cc)

  -- an old value that is shared is exported
  export_old : (d : List ℕ) (a array : ℕ) (i : Operand) → IsIn a d → slice_get P.lines a ≡ Some (line.Fetch array i) → is_shared (cut P) d (P.fields + a) ≡ true → IsIn (P.fields + a) (flat_map old_and_new (held (cut P) d))
  export_old d a array i ad at shared =
      let h : Held = fetched_by P d array a i in
      let old : h.old ≡ Some (P.fields + a) = ap (λ (x : Bool). if_so x (P.fields + a)) shared in
      in_flat old_and_new (held (cut P) d) h (P.fields + a) (held_in P ok d a array i ad at)
      (in_left (option_to_list h.old) (option_to_list h.new) (P.fields + a) (subst (λ (o : Option ℕ). IsIn (P.fields + a) (option_to_list o)) (sym old) (inl refl)))

  new_true : (d : List ℕ) (a array : ℕ) → IsIn a d → is_so P is_fetch a ≡ false → is_shared (cut P) d (P.fields + a) ≡ true
      → list_any (λ k. is_this (P.fields + a) (written (cut P) d k)) (range_with_len 0 array) ≡ false → is_new (cut P) d array (P.fields + a) ≡ true
  new_true d a array ad plain shared none =
      let v : ℕ = P.fields + a in
      let back : v - P.fields ≡ a = omega arith in
      ap (λ (x : ℕ). (not (nat_lt v P.fields) && has d x) && (not (is_so P is_fetch x) && (is_shared (cut P) d v && not (list_any (λ k. is_this v (written (cut P) d k)) (range_with_len 0 array))))) back
      ∙ and_from _ _ (and_from _ _ (ap not (le-ltb v P.fields (omega arith))) (in_has d a ad)) (and_from _ _ (ap not plain) (and_from _ _ shared (ap not none)))

  -- a written value that is shared is exported by the first of its arrays
  export_new : (m : ℕ) (d : List ℕ) (a array : ℕ) → array < m → IsIn d (cut P).all → IsIn a d → is_so P is_fetch a ≡ false → is_shared (cut P) d (P.fields + a) ≡ true
      → written (cut P) d array ≡ Some (Value (P.fields + a)) → IsIn (P.fields + a) (flat_map old_and_new (held (cut P) d))
  export_new zero d a array am di ad plain shared w = absurd (omega arith)
  export_new (suc m) d a array am di ad plain shared w =
      by_case (list_any (λ k. is_this (P.fields + a) (written (cut P) d k)) (range_with_len 0 array)) refl (λ k km w'. export_new m d a k km di ad plain shared w')
    where
      by_case : (x : Bool) → list_any (λ k. is_this (P.fields + a) (written (cut P) d k)) (range_with_len 0 array) ≡ x
          → ((k : ℕ) → k < m → written (cut P) d k ≡ Some (Value (P.fields + a)) → IsIn (P.fields + a) (flat_map old_and_new (held (cut P) d))) → IsIn (P.fields + a) (flat_map old_and_new (held (cut P) d))
      by_case true e rest =
          let r = in_any (λ k. is_this (P.fields + a) (written (cut P) d k)) (range_with_len 0 array) e in
          let less = (range_in 0 array r.0 r.1).1 in
          rest r.0 (omega arith) (is_this_true (P.fields + a) (written (cut P) d r.0) r.2)
      by_case false e rest =
          let s = written_from P ok d array (Value (P.fields + a)) w in
          let k = read_beside P ok d s.0 array s.1 s.2 di s.3 s.4 in
          let h : Held = fetched_by P d array k.0 s.1 in
          let its : h.new ≡ Some (P.fields + a) = ap (new_of (cut P) d array) w ∙ ap (λ (x : Bool). if_so x (P.fields + a)) (new_true d a array ad plain shared e) in
          in_flat old_and_new (held (cut P) d) h (P.fields + a) (held_in P ok d k.0 array s.1 k.1 k.2)
          (in_right (option_to_list h.old) (option_to_list h.new) (P.fields + a) (subst (λ (o : Option ℕ). IsIn (P.fields + a) (option_to_list o)) (sym its) (inl refl)))

  -- what a codelet makes, no inner value, and is shared, it exports
  pub exported : (d : List ℕ) (a : ℕ) → IsIn d (cut P).all → IsIn a d → IsPlain P a → is_shared (cut P) d (P.fields + a) ≡ true → IsIn (P.fields + a) (exports (cut P) d)
  exported d a di ad (l, at, mk, plain) shared = by_flank (has_flank (cut P) d) refl
    where
      an : a < count P
      an = at_within P.lines a l at

      from_fetch : (l ≡ l) → (array : ℕ) (i : Operand) → l ≡ line.Fetch array i → IsIn (P.fields + a) (flat_map old_and_new (held (cut P) d))
      from_fetch r array i is = export_old d a array i ad (at ∙ ap Some is) shared

      from_store : is_flank l ≡ false → is_written P a ≡ true → IsIn (P.fields + a) (flat_map old_and_new (held (cut P) d))
      from_store no_flank w =
          let r = in_any (is_so P (stores (P.fields + a))) (class_of P a) w in
          let s = so_at P (stores (P.fields + a)) r.0 r.2 in
          let store = store_of (P.fields + a) s.0 s.2 in
          let there : slice_get P.lines r.0 ≡ Some (line.Store store.0 store.1 (Value (P.fields + a))) = s.1 ∙ ap Some store.2 in
          let in_a = class_in P a r.0 r.1 in
          let jd : IsIn r.0 d = whole_class P ok d a r.0 di ad (at_within P.lines a l at) in_a.0 in_a.1 in
          let its : written (cut P) d store.0 ≡ Some (Value (P.fields + a)) = written_at P ok d r.0 store.0 store.1 (Value (P.fields + a)) jd there ∙ ap Some (seen_inside P r.0 a in_a.1) in
          export_new (suc store.0) d a store.0 (omega arith) di ad (at_so P is_fetch a l at ∙ plain_fetch l no_flank) shared its

      by_flank : (x : Bool) → has_flank (cut P) d ≡ x → IsIn (P.fields + a) (if x then flat_map old_and_new (held (cut P) d) else map (λ b. P.fields + b) d)
      by_flank false e = in_map (λ b. P.fields + b) d a ad
      by_flank true e =
          let s = stateful_member d a di ad (at_within P.lines a l at) e in
          elim (no_fetch_no_flank l mk) [
            | inr r ↦ from_fetch refl r.0 r.1 r.2
            | inl h ↦ elim (old_or_written a s plain) [ inl f ↦ absurd (let g : is_so P is_flank a ≡ false = at_so P is_flank a l at ∙ h in cc (g, f)) | inr w ↦ from_store h w ]
          ]

  past : (j : ℕ) (o : Option Line) → slice_get P.lines (count P + j) ≡ o → holds_for is_flank o ≡ false
  past j None e = refl
  past j (Some l) e = absurd (let h = at_within P.lines (count P + j) l e in omega arith)

  -- a twin exports its value
  pub twin_exports : (j : ℕ) → IsIn (P.fields + (count P + j)) (exports (cut P) ((count P + j) ∷ []))
  twin_exports j =
      let none : has_flank (cut P) ((count P + j) ∷ []) ≡ false = in_none (is_so P is_flank) ((count P + j) ∷ []) (λ x i. elim i [ inl is ↦ ap (is_so P is_flank) is ∙ past j (slice_get P.lines (count P + j)) refl | inr h ↦ absurd h ]) in
      subst (λ (x : Bool). IsIn (P.fields + (count P + j)) (if x then flat_map old_and_new (held (cut P) ((count P + j) ∷ [])) else (P.fields + (count P + j)) ∷ [])) (sym none) (inl refl)

  shared_by : (c d : List ℕ) (b v : ℕ) → IsIn c (cut P).all → meet c d ≡ false → IsIn b c → line_uses (cut P) v b ≡ true → is_shared (cut P) d v ≡ true
  shared_by c d b v ci apart bc used =
      or_right _ _ (any_in (λ x. not (meet x d) && list_any (line_uses (cut P) v) x) (cut P).all c ci (and_from _ _ (ap not apart) (any_in (line_uses (cut P) v) c b bc used)))

  use_of : (c d : List ℕ) (b a : ℕ) → meet c d ≡ false → IsIn b c → IsIn a d → line_uses (cut P) (P.fields + a) b ≡ true → uses_codelet (cut P) c d ≡ true
  use_of c d b a apart bc ad used =
      and_from _ _ (ap not apart) (any_in (λ x. list_any (λ y. line_uses (cut P) (P.fields + y) x) d) c b bc (any_in (λ y. line_uses (cut P) (P.fields + y) b) d a ad used))

  line_used : (b v : ℕ) (l : Line) (o : Operand) → line_of (cut P) b ≡ Some l → IsIn o (operands_of l) → o ≡ Value v → line_uses (cut P) v b ≡ true
  line_used b v l o e i is = ap (holds_for (uses_value v)) e ∙ in_uses v (operands_of l) (subst (λ (x : Operand). IsIn x (operands_of l)) is i)

  other_plain : (c : List ℕ) (b a : ℕ) (o : Operand) → IsIn c (cut P).all → IsIn b c → o ≡ Value (P.fields + a) → IsPlain P a → line_uses (cut P) (P.fields + a) b ≡ true → (IsIn a c → ⊥) → Source P c o
  other_plain c b a o ci bc is plain used apart =
      let an : a < count P = at_within P.lines a plain.0 plain.1 in
      let r = codelet_with P ok a an in
      let d : List ℕ = class_of P r.0 in
      let di : IsIn d (cut P).all = first_codelet P r.0 r.1 r.2 in
      let ad : IsIn a d = in_class P r.0 a an r.3 in
      let none : meet c d ≡ false = meet_none c d (λ z zc zd. apart (subst (λ (x : List ℕ). IsIn a x) (sym (one_codelet P ok c d z ci di zc zd)) ad)) in
      Other d (P.fields + a) is di (use_of c d b a none bc ad used) (exported d a di ad plain (shared_by c d b (P.fields + a) ci none bc used))

  other_twin : (c : List ℕ) (b a : ℕ) (o : Operand) → IsIn c (cut P).all → IsIn b c → o ≡ Value (P.fields + (count P + a)) → IsIn a (twins_of P) → line_uses (cut P) (P.fields + (count P + a)) b ≡ true → (IsIn (count P + a) c → ⊥) → Source P c o
  other_twin c b a o ci bc is twin used apart =
      let d : List ℕ = (count P + a) ∷ [] in
      let none : meet c d ≡ false = meet_none c d (λ z zc zd. elim zd [ inl at ↦ apart (subst (λ (x : ℕ). IsIn x c) at zc) | inr h ↦ h ]) in
      Other d (P.fields + (count P + a)) is (twin_codelet P a twin) (use_of c d b (count P + a) none bc (inl refl) used) (twin_exports a)

  -- each operand of a codelet's statements
  pub source_law : (c : List ℕ) (b : ℕ) (l : Line) (o : Operand) → IsIn c (cut P).all → IsIn b c → line_of (cut P) b ≡ Some l → IsIn o (operands_of l) → Source P c o
  source_law c b l o ci bc e i = by_shape (shape_of P c ci)
    where
      of_class : (x : ℕ) → c ≡ class_of P x → x < count P → b < count P → Port P b o → Source P c o
      of_class x is xn bn (Fixed w at) = OfConst w at
      of_class x is xn bn (Entered v at h) = OfField v at h
      of_class x is xn bn (Inside a at an t lt) = Own a at (whole_class P ok c b a ci bc bn an (together_back P ok a b t))
      of_class x is xn bn (Outside a at plain step t) =
          let an : a < count P = at_within P.lines a plain.0 plain.1 in
          other_plain c b a o ci bc at plain (line_used b (P.fields + a) l o e i at) (λ ac. let h : together P a b ≡ true = same_class P ok c a b ci ac bc an bn in cc (h, t))
      of_class x is xn bn (OfTwin a at twin step t) =
          other_twin c b a o ci bc at twin (line_used b (P.fields + (count P + a)) l o e i at) (λ ac. let h = (class_in P x (count P + a) (subst (λ (z : List ℕ). IsIn (count P + a) z) is ac)).0 in omega arith)

      of_twin : (j : ℕ) → c ≡ (count P + j) ∷ [] → b ≡ count P + j → TwinPort P j o → Source P c o
      of_twin j is bj (FixedT w at) = OfConst w at
      of_twin j is bj (EnteredT v at h) = OfField v at h
      of_twin j is bj (OutsideT a at plain step) =
          let an : a < count P = at_within P.lines a plain.0 plain.1 in
          other_plain c b a o ci bc at plain (line_used b (P.fields + a) l o e i at) (λ ac. let p : IsIn a ((count P + j) ∷ []) = subst (λ (z : List ℕ). IsIn a z) is ac in elim p [ inl q ↦ absurd (omega arith) | inr h ↦ h ])
      of_twin j is bj (OfTwinT a at twin step lt) =
          other_twin c b a o ci bc at twin (line_used b (P.fields + (count P + a)) l o e i at)
          (λ ac. let p : IsIn (count P + a) ((count P + j) ∷ []) = subst (λ (z : List ℕ). IsIn (count P + a) z) is ac in elim p [ inl q ↦ absurd (omega arith) | inr h ↦ h ])

      by_shape : Shape P c → Source P c o
      by_shape (Class x is xn first) =
          let p = class_in P x b (subst (λ (z : List ℕ). IsIn b z) is bc) in
          of_class x is xn p.0 (line_port P ok b l o p.0 e i)
      by_shape (Twin j is ji) =
          let p : IsIn b ((count P + j) ∷ []) = subst (λ (z : List ℕ). IsIn b z) is bc in
          elim p [ inl at ↦ of_twin j is at (twin_line_port P ok j l o ji (ap (line_of (cut P)) (sym at) ∙ e) i) | inr h ↦ absurd h ]

  -- each output
  pub shown_law : (o : Operand) → IsIn o P.outputs → Shown P (outer (cut P) o)
  shown_law o i = by_port (shown_port P ok o i)
    where
      by_port : ShownPort P (outer (cut P) o) → Shown P (outer (cut P) o)
      by_port (FixedS w at) = ShownConst w at
      by_port (EnteredS v at h) = ShownField v at h
      by_port (OfTwinS a at twin) = ShownValue ((count P + a) ∷ []) (P.fields + (count P + a)) at (twin_codelet P a twin) (twin_exports a)
      by_port (OutsideS a at plain) =
          let an : a < count P = at_within P.lines a plain.0 plain.1 in
          let r = codelet_with P ok a an in
          let d : List ℕ = class_of P r.0 in
          let di : IsIn d (cut P).all = first_codelet P r.0 r.1 r.2 in
          let ad : IsIn a d = in_class P r.0 a an r.3 in
          let here : is_value (P.fields + a) (outer (cut P) o) ≡ true = ap (is_value (P.fields + a)) at ∙ eq-eqb (P.fields + a) (P.fields + a) refl in
          let shared : is_shared (cut P) d (P.fields + a) ≡ true = or_left _ _ (any_in (λ x. is_value (P.fields + a) (outer (cut P) x)) P.outputs o i here) in
          ShownValue d (P.fields + a) at di (exported d a di ad plain shared)

  -- of its own values a codelet's statement uses those of statements before it
  pub earlier_law : (c : List ℕ) (b a : ℕ) (l : Line) → IsIn c (cut P).all → IsIn b c → IsIn a c → line_of (cut P) b ≡ Some l → IsIn (Value (P.fields + a)) (operands_of l) → a < b
  earlier_law c b a l ci bc ac e i = by_shape (shape_of P c ci)
    where
      is_this : (k : ℕ) → Value (P.fields + a) ≡ Value (P.fields + k) → a ≡ k
      is_this k is = let same : P.fields + a ≡ P.fields + k = cc in omega arith

      of_class : b < count P → a < count P → Port P b (Value (P.fields + a)) → a < b
      of_class bn an (Fixed w at) = absurd (cc)
      of_class bn an (Entered v at h) = absurd (let same : P.fields + a ≡ v = cc in omega arith)
      of_class bn an (Inside k at kn t lt) = let same = is_this k at in omega arith
      of_class bn an (Outside k at plain step t) =
          let same = is_this k at in
          absurd (let h : together P k b ≡ true = same_class P ok c k b ci (subst (λ (x : ℕ). IsIn x c) same ac) bc (omega arith) bn in cc (h, t))
      of_class bn an (OfTwin k at twin step t) = let same = is_this (count P + k) at in absurd (omega arith)

      of_twin : (j : ℕ) → b ≡ count P + j → a ≡ count P + j → TwinPort P j (Value (P.fields + a)) → a < b
      of_twin j bj aj (FixedT w at) = absurd (cc)
      of_twin j bj aj (EnteredT v at h) = absurd (let same : P.fields + a ≡ v = cc in omega arith)
      of_twin j bj aj (OutsideT k at plain step) = let same = is_this k at in let kn : k < count P = at_within P.lines k plain.0 plain.1 in absurd (omega arith)
      of_twin j bj aj (OfTwinT k at twin step lt) = let same = is_this (count P + k) at in absurd (omega arith)

      by_shape : Shape P c → a < b
      by_shape (Class x is xn first) =
          let p = class_in P x b (subst (λ (z : List ℕ). IsIn b z) is bc) in
          let q = class_in P x a (subst (λ (z : List ℕ). IsIn a z) is ac) in
          of_class p.0 q.0 (line_port P ok b l (Value (P.fields + a)) p.0 e i)
      by_shape (Twin j is ji) =
          let p : IsIn b ((count P + j) ∷ []) = subst (λ (z : List ℕ). IsIn b z) is bc in
          let q : IsIn a ((count P + j) ∷ []) = subst (λ (z : List ℕ). IsIn a z) is ac in
          elim p [
            | inl bj ↦ elim q [ inl aj ↦ of_twin j bj aj (twin_line_port P ok j l (Value (P.fields + a)) ji (ap (line_of (cut P)) (sym bj) ∙ e) i) | inr h ↦ absurd h ]
            | inr h ↦ absurd h
          ]
