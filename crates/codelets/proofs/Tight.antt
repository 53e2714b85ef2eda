-- A statement and its twin never both have containers, so there are at most as many containers as fields and statements.
use Rattle.std.proofs.Common.{◌≡◌, ℕ, ◌+◌, ◌-◌, ◌*◌, ◌<◌, ◌≤◌, Bool, true, false, not, nat_eq, nat_lt, List, [], ◌∷◌, ◌++◌, Option, Some, length, map, refl, sym, ap, ◌∙◌, subst, arith, ◌⊎◌, inl, inr, if◌then◌else◌}
use Rattle.std.specs.Prelude.{slice_get}
use Rattle.std.specs.List.{IsDistinct, flat_map, range_with_len}
use Rattle.std.proofs.lemmas.Bool.{and_parts, eq-eqb, ne_eqb, not-true, lt-ltb, le-ltb, cases_lt}
use Rattle.std.proofs.lemmas.List.{length-map}
use Rattle.std.proofs.lemmas.Map.Steps.{length-le_from_distinct_below}
use Rattle.dom_flat.specs.declared.line.Operand.{Operand}
use Rattle.dom_flat.specs.declared.line.Operand.TheVariants.{Const, Value}
use Rattle.dom_flat.specs.declared.line.Line.TheVariants as line
use Rattle.dom_flat.specs.Lines.{is_flank, stores}
use Rattle.codelets.specs.Lists.{IsIn, has}
use Rattle.codelets.specs.Linked.{Linked, IsLinked, class_of, count, is_inner, is_so, is_stateful, is_written, together, twins_of}
use Rattle.codelets.specs.Cut.{cut, has_flank, in_order, seen_by}
use Rattle.codelets.specs.Held.{Held, exports, held, if_so, is_shared, written}
use Rattle.codelets.specs.Containers.{containers, holders}
use Rattle.codelets.specs.Laws.{NewOf}
use Rattle.codelets.proofs.Lists.{any_in, in_any, has_in, map_in, at_within}
use Rattle.codelets.proofs.Classes.{Shape, Class, Twin, shape_of, in_class, class_in, twin_inner, at_so}
use Rattle.codelets.proofs.Ports.{seen_field, seen_made, outer_made}
use Rattle.codelets.proofs.Slots.{held_is, slot_law, written_from, whole_class, same_class}
use Rattle.codelets.proofs.Order.{every_from, every_at}
use Rattle.codelets.proofs.Containers.{once_distinct, holds_cases, export_made, export_held, if_so_some, number_within}

distinct_map : (f : ℕ → ℕ) (xs : List ℕ) → IsDistinct nat_eq xs → ((v w : ℕ) → IsIn v xs → IsIn w xs → f v ≡ f w → v ≡ w) → IsDistinct nat_eq (map f xs)
unfolding IsDistinct
distinct_map f [] p inj = tt
distinct_map f (x ∷ xs) p inj = (
  every_from (λ y. nat_eq (f x) y ≡ false) (map f xs) (λ y i.
      let r = map_in f xs y i in
      ne_eqb (f x) y (λ e.
      let same : x ≡ r.0 = inj x r.0 (inl refl) (inr r.1) (e ∙ r.2) in
      let none : nat_eq x r.0 ≡ false = every_at (λ z. nat_eq x z ≡ false) xs r.0 p.0 r.1 in
      let some : nat_eq x r.0 ≡ true = eq-eqb x r.0 same in
      absurd (cc (none, some)))),
  distinct_map f xs p.1 (λ v w i j. inj v w (inr i) (inr j)),
)

module _ (P : Linked) (ok : IsLinked P) where
  -- what is seen as the value of a statement is that value
  seen_back : (j a : ℕ) (o : Operand) → a < count P → seen_by (cut P) j o ≡ Value (P.fields + a) → o ≡ Value (P.fields + a)
  seen_back j a (Const w) an e = absurd (cc)
  seen_back j a (Value k) an e = by_field (cases_lt k P.fields)
    where
      by_case : (x : ℕ) → k ≡ P.fields + x → (s t : Bool) → (if s then Value (P.fields + x) else (if t then Value (P.fields + x + count P) else Value (P.fields + x))) ≡ Value (P.fields + a) → Value k ≡ Value (P.fields + a)
      by_case x is true t q = ap Value is ∙ q
      by_case x is false false q = ap Value is ∙ q
      by_case x is false true q = absurd (let same : P.fields + x + count P ≡ P.fields + a = cc in omega arith)

      by_field : (k < P.fields) ⊎ (P.fields ≤ k) → Value k ≡ Value (P.fields + a)
      by_field (inl h) = sym (seen_field P j k h) ∙ e
      by_field (inr h) =
          let x : ℕ = k - P.fields in
          let is : k ≡ P.fields + x = omega arith in
          by_case x is (together P x j) (has (twins_of P) x) (ap (λ (o : Operand). if together P x j then Value (P.fields + x) else o) (sym (outer_made P x)) ∙ sym (seen_made P j x) ∙ ap (λ (v : ℕ). seen_by (cut P) j (Value v)) (sym is) ∙ e)

  -- an inner value is exported by no class
  inner_hidden : (d : List ℕ) (a : ℕ) → IsIn d (cut P).all → IsIn a d → a < count P → is_inner P a ≡ true → IsIn (P.fields + a) (exports (cut P) d) → ⊥
  inner_hidden d a di ad an inner i =
      let s = and_parts (is_stateful P a) _ inner in
      let t = and_parts (not (is_so P is_flank a)) _ s.1 in
      let no_flank : is_so P is_flank a ≡ false = not-true (is_so P is_flank a) t.0 in
      let unwritten : is_written P a ≡ false = not-true (is_written P a) t.1 in
      let f = in_any (is_so P is_flank) (class_of P a) s.0 in
      let g = class_in P a f.0 f.1 in
      let flank : has_flank (cut P) d ≡ true = any_in (is_so P is_flank) d f.0 (whole_class P ok d a f.0 di ad an g.0 g.1) f.2 in
      let h = export_held P ok d (P.fields + a) flank i in
      elim h.2 [ inl o ↦ old h.0 h.1 o no_flank | inr n ↦ new h.0 h.1 n unwritten ]
    where
      old : (h : Held) → IsIn h (held (cut P) d) → h.old ≡ Some (P.fields + a) → is_so P is_flank a ≡ false → ⊥
      old h hi o none =
          let r = held_is P ok d h hi in
          let its : if_so (is_shared (cut P) d (P.fields + r.0)) (P.fields + r.0) ≡ Some (P.fields + a) = ap (λ (x : Held). x.old) (sym r.4) ∙ o in
          let same : P.fields + a ≡ P.fields + r.0 = (if_so_some (is_shared (cut P) d (P.fields + r.0)) (P.fields + r.0) (P.fields + a) its).1 in
          let at : r.0 ≡ a = omega arith in
          let there : slice_get P.lines a ≡ Some (line.Fetch h.array r.1) = ap (slice_get P.lines) (sym at) ∙ r.3 in
          let some : is_so P is_flank a ≡ true = at_so P is_flank a (line.Fetch h.array r.1) there in
          absurd (cc (none, some))

      new : (h : Held) → IsIn h (held (cut P) d) → h.new ≡ Some (P.fields + a) → is_written P a ≡ false → ⊥
      new h hi n none =
          let slot = slot_law P ok d h di hi in
          let write : h.write ≡ Some (Value (P.fields + a)) = subst (λ (o : Option ℕ). NewOf P o h.write) n slot.news in
          let r = held_is P ok d h hi in
          let its : written (cut P) d h.array ≡ Some (Value (P.fields + a)) = ap (λ (x : Held). x.write) (sym r.4) ∙ write in
          let w = written_from P ok d h.array (Value (P.fields + a)) its in
          let back : w.2 ≡ Value (P.fields + a) = seen_back w.0 a w.2 an (sym w.5) in
          let there : slice_get P.lines w.0 ≡ Some (line.Store h.array w.1 (Value (P.fields + a))) = w.4 ∙ ap (λ (o : Operand). Some (line.Store h.array w.1 o)) back in
          let jn = at_within P.lines w.0 (line.Store h.array w.1 (Value (P.fields + a))) there in
          let beside : IsIn w.0 (class_of P a) = in_class P a w.0 jn (same_class P ok d a w.0 di ad w.3 an jn) in
          let storing : is_so P (stores (P.fields + a)) w.0 ≡ true = at_so P (stores (P.fields + a)) w.0 (line.Store h.array w.1 (Value (P.fields + a))) there ∙ eq-eqb (P.fields + a) (P.fields + a) refl in
          let some : is_written P a ≡ true = any_in (is_so P (stores (P.fields + a))) (class_of P a) w.0 beside storing in
          absurd (cc (none, some))

  never_both : (a : ℕ) → a < count P → IsIn (P.fields + a) (holders (cut P)) → IsIn (P.fields + (count P + a)) (holders (cut P)) → ⊥
  never_both a an i j = twin (holds_cases (cut P) (P.fields + (count P + a)) j)
    where
      plain : is_inner P a ≡ true → (P.fields + a < P.fields) ⊎ ((d : List ℕ) × IsIn d (cut P).all × IsIn (P.fields + a) (exports (cut P) d)) → ⊥
      plain inner (inl h) = absurd (omega arith)
      plain inner (inr r) =
          let m = export_made P ok r.0 (P.fields + a) r.2 in
          let at : m.0 ≡ a = let is = m.2 in omega arith in
          inner_hidden r.0 a r.1 (subst (λ (b : ℕ). IsIn b r.0) at m.1) an inner r.2

      by_shape : (d : List ℕ) (b : ℕ) → IsIn b d → b ≡ count P + a → Shape P d → ⊥
      by_shape d b bd is (Class x e xn first) = absurd (let low = (class_in P x b (subst (λ (z : List ℕ). IsIn b z) e bd)).0 in omega arith)
      by_shape d b bd is (Twin k e ki) =
          let p : IsIn b ((count P + k) ∷ []) = subst (λ (z : List ℕ). IsIn b z) e bd in
          elim p [ inl at ↦ (let same : k ≡ a = omega arith in plain (subst (λ (x : ℕ). is_inner P x ≡ true) same (twin_inner P k ki).1) (holds_cases (cut P) (P.fields + a) i)) | inr h ↦ h ]

      twin : (P.fields + (count P + a) < P.fields) ⊎ ((d : List ℕ) × IsIn d (cut P).all × IsIn (P.fields + (count P + a)) (exports (cut P) d)) → ⊥
      twin (inl h) = absurd (omega arith)
      twin (inr r) =
          let m = export_made P ok r.0 (P.fields + (count P + a)) r.2 in
          let at : m.0 ≡ count P + a = let is = m.2 in omega arith in
          by_shape r.0 m.0 m.1 at (shape_of P r.0 r.1)

  -- a twin's value counts as its original's
  base : ℕ → ℕ
  base v = if nat_lt v (P.fields + count P) then v else v - count P

  base_low : (v : ℕ) → v < P.fields + count P → base v ≡ v
  unfolding base
  base_low v h = ap (λ (t : Bool). if t then v else v - count P) (lt-ltb v (P.fields + count P) h)

  base_high : (v : ℕ) → P.fields + count P ≤ v → base v ≡ v - count P
  unfolding base
  base_high v h = ap (λ (t : Bool). if t then v else v - count P) (le-ltb v (P.fields + count P) h)

  value_within : (v : ℕ) → IsIn v (holders (cut P)) → v < P.fields + 2 * count P
  value_within v i =
      elim (holds_cases (cut P) v i) [
        | inl h ↦ omega arith
        | inr r ↦ (let m = export_made P ok r.0 v r.2 in let is = m.2 in let h = number_within P ok r.0 m.0 r.1 m.1 in omega arith)
      ]

  mixed : (v w : ℕ) → IsIn v (holders (cut P)) → IsIn w (holders (cut P)) → v < P.fields + count P → P.fields + count P ≤ w → v ≡ w - count P → ⊥
  mixed v w i j low high e =
      let a : ℕ = v - P.fields in
      let at_v : v ≡ P.fields + a = omega arith in
      let at_w : w ≡ P.fields + (count P + a) = omega arith in
      never_both a (omega arith) (subst (λ (x : ℕ). IsIn x (holders (cut P))) at_v i) (subst (λ (x : ℕ). IsIn x (holders (cut P))) at_w j)

  base_apart : (v w : ℕ) → IsIn v (holders (cut P)) → IsIn w (holders (cut P)) → base v ≡ base w → v ≡ w
  base_apart v w i j e = by_case (cases_lt v (P.fields + count P)) (cases_lt w (P.fields + count P))
    where
      by_case : (v < P.fields + count P) ⊎ (P.fields + count P ≤ v) → (w < P.fields + count P) ⊎ (P.fields + count P ≤ w) → v ≡ w
      by_case (inl p) (inl q) = sym (base_low v p) ∙ e ∙ base_low w q
      by_case (inl p) (inr q) = absurd (mixed v w i j p q (sym (base_low v p) ∙ e ∙ base_high w q))
      by_case (inr p) (inl q) = absurd (mixed w v j i q p (sym (base_low w q) ∙ sym e ∙ base_high v p))
      by_case (inr p) (inr q) = let same : v - count P ≡ w - count P = sym (base_high v p) ∙ e ∙ base_high w q in omega arith

  base_within : (v : ℕ) → IsIn v (holders (cut P)) → base v < P.fields + count P
  base_within v i = by_case (cases_lt v (P.fields + count P))
    where
      by_case : (v < P.fields + count P) ⊎ (P.fields + count P ≤ v) → base v < P.fields + count P
      by_case (inl p) = let is = base_low v p in omega arith
      by_case (inr p) = let is = base_high v p in let most = value_within v i in omega arith

  -- as many containers as fields and statements are enough
  pub containers_tight : containers (cut P) ≤ P.fields + count P
  containers_tight =
      let distinct : IsDistinct nat_eq (map base (holders (cut P))) =
      distinct_map base (holders (cut P)) (once_distinct [] (range_with_len 0 P.fields ++ flat_map (exports (cut P)) (in_order (cut P)))) base_apart in
      let le : length (map base (holders (cut P))) ≤ P.fields + count P =
      length-le_from_distinct_below (map base (holders (cut P))) (P.fields + count P) distinct (λ q e.
      let r = map_in base (holders (cut P)) q (has_in (map base (holders (cut P))) q e) in
      let low = base_within r.0 r.1 in
      let is = r.2 in
      omega arith) in
      let size = length-map (holders (cut P)) base in
      omega arith
