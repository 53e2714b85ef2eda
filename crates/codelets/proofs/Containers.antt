-- The containers of values.
use Rattle.std.proofs.Common.{◌≡◌, ℕ, zero, suc, ◌+◌, ◌-◌, ◌*◌, ◌<◌, ◌≤◌, Bool, true, false, not, ◌&&◌, nat_eq, nat_lt, List, [], ◌∷◌, ◌++◌, Option, Some, None, length, map, get_or, refl, sym, ap, ◌∙◌, subst, arith, ◌⊎◌, inl, inr, if◌then◌else◌}
use Rattle.std.specs.Prelude.{slice_index}
use Rattle.std.specs.List.{All, IsDistinct, flat_map, range_with_len}
use Rattle.std.specs.Option.{option_to_list}
use Rattle.std.proofs.lemmas.Bool.{and_parts, eqb-true, eq-eqb, ne_eqb, not-true, ltb-false, or_parts}
use Rattle.std.proofs.lemmas.List.{length-map}
use Rattle.std.proofs.lemmas.Map.Steps.{length-le_from_distinct_below}
use Rattle.dom_flat.specs.declared.line.Operand.{Operand}
use Rattle.dom_flat.specs.declared.line.Operand.TheVariants.{Const, Value}
use Rattle.codelets.specs.Lists.{AreApart, IsIn, has, meet, once, place_in}
use Rattle.codelets.specs.Linked.{Linked, IsLinked, count}
use Rattle.codelets.specs.Cut.{Cut, cut, has_flank, in_order}
use Rattle.codelets.specs.Held.{Held, exports, held, if_so, is_new, is_shared, new_of, old_and_new, written}
use Rattle.codelets.specs.Containers.{container, containers, holder, holders, place}
use Rattle.codelets.proofs.Lists.{has_in, in_has, in_left, in_right, append_in, in_flat, flat_in, map_in, in_range, range_in, meet_apart}
use Rattle.codelets.proofs.Classes.{Shape, Class, Twin, shape_of, class_in, twin_inner, one_codelet}
use Rattle.codelets.proofs.Slots.{held_is}
use Rattle.codelets.proofs.Order.{all_apart, in_the_order, order_in, order_apart, some_number, every_from, every_at}

held_at_place : (xs : List ℕ) (v : ℕ) → IsIn v xs → slice_index xs (place_in xs v) ≡ v
held_at_place [] v i = absurd i
held_at_place (x ∷ xs) v i = by_case (nat_eq x v) refl i (held_at_place xs v)
  where
    by_case : (b : Bool) → nat_eq x v ≡ b → IsIn v (x ∷ xs) → (IsIn v xs → slice_index xs (place_in xs v) ≡ v) → slice_index (x ∷ xs) (if b then 0 else suc (place_in xs v)) ≡ v
    by_case true e i rest = eqb-true x v e
    by_case false e (inl is) rest = absurd (let h : nat_eq x v ≡ true = eq-eqb x v (sym is) in cc)
    by_case false e (inr i) rest = rest i

place_within : (xs : List ℕ) (v : ℕ) → IsIn v xs → place_in xs v < length xs
place_within [] v i = absurd i
place_within (x ∷ xs) v i = by_case (nat_eq x v) refl i (place_within xs v)
  where
    by_case : (b : Bool) → nat_eq x v ≡ b → IsIn v (x ∷ xs) → (IsIn v xs → place_in xs v < length xs) → (if b then 0 else suc (place_in xs v)) < suc (length xs)
    by_case true e i rest = omega arith
    by_case false e (inl is) rest = absurd (let h : nat_eq x v ≡ true = eq-eqb x v (sym is) in cc)
    by_case false e (inr i) rest = let h = rest i in omega arith

-- each value that was not seen is kept
in_once : (seen xs : List ℕ) (v : ℕ) → IsIn v xs → IsIn v seen ⊎ IsIn v (once seen xs)
in_once seen [] v i = absurd i
in_once seen (x ∷ xs) v i = by_case (has seen x) refl i (in_once seen xs v) (in_once (x ∷ seen) xs v)
  where
    by_case : (b : Bool) → has seen x ≡ b → IsIn v (x ∷ xs) → (IsIn v xs → IsIn v seen ⊎ IsIn v (once seen xs)) → (IsIn v xs → IsIn v (x ∷ seen) ⊎ IsIn v (once (x ∷ seen) xs)) → IsIn v seen ⊎ IsIn v (if b then once seen xs else x ∷ once (x ∷ seen) xs)
    by_case true e (inl is) r s = inl (has_in seen v (ap (has seen) is ∙ e))
    by_case true e (inr j) r s = r j
    by_case false e (inl is) r s = inr (inl is)
    by_case false e (inr j) r s = elim (s j) [ inl k ↦ elim k [ inl is ↦ inr (inl is) | inr h ↦ inl h ] | inr k ↦ inr (inr k) ]

-- nothing else is kept, and nothing that was seen
once_in : (seen xs : List ℕ) (v : ℕ) → IsIn v (once seen xs) → IsIn v xs × (has seen v ≡ false)
once_in seen [] v i = absurd i
once_in seen (x ∷ xs) v i = by_case (has seen x) refl i (once_in seen xs v) (once_in (x ∷ seen) xs v)
  where
    by_case : (b : Bool) → has seen x ≡ b → IsIn v (if b then once seen xs else x ∷ once (x ∷ seen) xs) → (IsIn v (once seen xs) → IsIn v xs × (has seen v ≡ false)) → (IsIn v (once (x ∷ seen) xs) → IsIn v xs × (has (x ∷ seen) v ≡ false)) → IsIn v (x ∷ xs) × (has seen v ≡ false)
    by_case true e j r s = let h = r j in (inr h.0, h.1)
    by_case false e (inl is) r s = (inl is, ap (has seen) is ∙ e)
    by_case false e (inr j) r s = let h = s j in (inr h.0, (or_parts (nat_eq v x) (has seen v) h.1).1)

pub once_distinct : (seen xs : List ℕ) → IsDistinct nat_eq (once seen xs)
unfolding IsDistinct
once_distinct seen [] = tt
once_distinct seen (x ∷ xs) = by_case (has seen x) (once_distinct seen xs) (once_distinct (x ∷ seen) xs)
  where
    by_case : (b : Bool) → IsDistinct nat_eq (once seen xs) → IsDistinct nat_eq (once (x ∷ seen) xs) → IsDistinct nat_eq (if b then once seen xs else x ∷ once (x ∷ seen) xs)
    by_case true r s = r
    by_case false r s = (
      every_from (λ y. nat_eq x y ≡ false) (once (x ∷ seen) xs) (λ y i.
          let h = (or_parts (nat_eq y x) (has seen y) (once_in (x ∷ seen) xs y i).1).0 in
          ne_eqb x y (λ is. let g : nat_eq y x ≡ true = eq-eqb y x (sym is) in absurd (cc (g, h)))),
      s,
    )

-- numbers from k, none of them seen, stand first as they are
places_from : (n k i : ℕ) (seen rest : List ℕ) → ((x : ℕ) → IsIn x seen → x < k) → i < n → (slice_index (once seen (range_with_len k n ++ rest)) i ≡ k + i) × (place_in (once seen (range_with_len k n ++ rest)) (k + i) ≡ i)
places_from zero k i seen rest low h = absurd (omega arith)
places_from (suc n) k i seen rest low h = by_case (has seen k) refl i h (λ j less. places_from n (k + 1) j (k ∷ seen) rest (λ x m. elim m [ inl is ↦ omega arith | inr s ↦ (let lt = low x s in omega arith) ]) less)
  where
    by_case : (b : Bool) → has seen k ≡ b → (j : ℕ) → j < suc n
        → ((j : ℕ) → j < n → (slice_index (once (k ∷ seen) (range_with_len (k + 1) n ++ rest)) j ≡ k + 1 + j) × (place_in (once (k ∷ seen) (range_with_len (k + 1) n ++ rest)) (k + 1 + j) ≡ j))
        → (slice_index (if b then once seen (range_with_len (k + 1) n ++ rest) else k ∷ once (k ∷ seen) (range_with_len (k + 1) n ++ rest)) j ≡ k + j)
        × (place_in (if b then once seen (range_with_len (k + 1) n ++ rest) else k ∷ once (k ∷ seen) (range_with_len (k + 1) n ++ rest)) (k + j) ≡ j)
    by_case true e j less r = absurd (let lt = low k (has_in seen k e) in omega arith)
    by_case false e zero less r =
        let at : k ≡ k + 0 = omega arith in
        (at, ap (λ (t : Bool). if t then 0 else suc (place_in (once (k ∷ seen) (range_with_len (k + 1) n ++ rest)) (k + 0))) (eq-eqb k (k + 0) at))
    by_case false e (suc j) less r =
        let s = r j (omega arith) in
        let at : k + 1 + j ≡ k + suc j = omega arith in (
          s.0 ∙ at,
          ap (λ (t : Bool). if t then 0 else suc (place_in (once (k ∷ seen) (range_with_len (k + 1) n ++ rest)) (k + suc j))) (ne_eqb k (k + suc j) (λ q. absurd (omega arith)))
              ∙ ap (λ (v : ℕ). suc (place_in (once (k ∷ seen) (range_with_len (k + 1) n ++ rest)) v)) (sym at)
              ∙ ap suc s.1,
        )

module _ (D : Cut) where
  exported_values : List ℕ
  exported_values = flat_map (exports D) (in_order D)

  -- fields are their own containers
  pub field_law : (v : ℕ) → v < D.linked.fields → (place D v ≡ v) × (holder D v ≡ v)
  field_law v h =
      let r = places_from D.linked.fields 0 v [] (flat_map (exports D) (in_order D)) (λ x i. absurd i) h in
      let at : 0 + v ≡ v = omega arith in
      (ap (place D) (sym at) ∙ r.1, r.0 ∙ at)

  pub field_holds : (v : ℕ) → v < D.linked.fields → IsIn v (holders D)
  field_holds v h =
      elim (in_once [] (range_with_len 0 D.linked.fields ++ flat_map (exports D) (in_order D)) v (in_left (range_with_len 0 D.linked.fields) (flat_map (exports D) (in_order D)) v (in_range 0 D.linked.fields v (omega arith) (omega arith)))) [ inl k ↦ absurd k | inr k ↦ k ]

  -- what a codelet exports has a container
  pub export_holds : (d : List ℕ) (v : ℕ) → IsIn d D.all → IsIn v (exports D d) → IsIn v (holders D)
  export_holds d v di i =
      elim (in_once [] (range_with_len 0 D.linked.fields ++ flat_map (exports D) (in_order D)) v (in_right (range_with_len 0 D.linked.fields) (flat_map (exports D) (in_order D)) v (in_flat (exports D) (in_order D) d v (in_the_order D d di) i))) [ inl k ↦ absurd k | inr k ↦ k ]

  -- a value has a container where it is a field or a codelet exports it
  pub holds_cases : (v : ℕ) → IsIn v (holders D) → (v < D.linked.fields) ⊎ ((d : List ℕ) × IsIn d D.all × IsIn v (exports D d))
  holds_cases v i =
      elim (append_in (range_with_len 0 D.linked.fields) (flat_map (exports D) (in_order D)) v (once_in [] (range_with_len 0 D.linked.fields ++ flat_map (exports D) (in_order D)) v i).0) [
        | inl h ↦ inl (let r = (range_in 0 D.linked.fields v h).1 in omega arith)
        | inr h ↦ inr (let r = flat_in (exports D) (in_order D) v h in (r.0, order_in D r.0 r.1, r.2))
      ]

  pub container_law : (v : ℕ) → IsIn v (holders D) → (container D v ≡ Some (place D v)) × (holder D (place D v) ≡ v) × (place D v < containers D)
  container_law v i = (
    ap (λ (t : Bool). if t then Some (place D v) else None) (in_has (holders D) v i),
    held_at_place (holders D) v i,
    place_within (holders D) v i,
  )

  -- no container for another value
  pub container_none : (v : ℕ) → has (holders D) v ≡ false → container D v ≡ None
  container_none v e = ap (λ (t : Bool). if t then Some (place D v) else None) e

  -- no two values share a container
  pub places_apart : (v w : ℕ) → IsIn v (holders D) → IsIn w (holders D) → place D v ≡ place D w → v ≡ w
  places_apart v w i j e = sym (held_at_place (holders D) v i) ∙ ap (holder D) e ∙ held_at_place (holders D) w j

pub if_so_some : (b : Bool) (v w : ℕ) → if_so b v ≡ Some w → (b ≡ true) × (w ≡ v)
if_so_some true v w e = (refl, let same : v ≡ w = cc in sym same)
if_so_some false v w e = absurd (cc)

some_item : (o : Option ℕ) (v : ℕ) → IsIn v (option_to_list o) → o ≡ Some v
some_item None v i = absurd i
some_item (Some w) v (inl is) = ap Some (sym is)
some_item (Some w) v (inr h) = absurd h

module _ (P : Linked) (ok : IsLinked P) where
  new_made : (c : List ℕ) (array v : ℕ) (w : Option Operand) → new_of (cut P) c array w ≡ Some v → (b : ℕ) × IsIn b c × (v ≡ P.fields + b)
  new_made c array v None e = absurd (cc)
  new_made c array v (Some (Const k)) e = absurd (cc)
  new_made c array v (Some (Value u)) e =
      let r = if_so_some (is_new (cut P) c array u) u v e in
      let s = and_parts (not (nat_lt u P.fields)) (has c (u - P.fields)) (and_parts (not (nat_lt u P.fields) && has c (u - P.fields)) _ r.0).0 in
      let low = ltb-false u P.fields (not-true (nat_lt u P.fields) s.0) in
      let at : v ≡ P.fields + (u - P.fields) = let is = r.1 in omega arith in
      (u - P.fields, has_in c (u - P.fields) s.1, at)

  -- with a flank, what a codelet exports is the old or the new word of an array of it
  pub export_held : (d : List ℕ) (v : ℕ) → has_flank (cut P) d ≡ true → IsIn v (exports (cut P) d) → (h : Held) × IsIn h (held (cut P) d) × ((h.old ≡ Some v) ⊎ (h.new ≡ Some v))
  export_held d v e i =
      let j : IsIn v (flat_map old_and_new (held (cut P) d)) = subst (λ (t : Bool). IsIn v (if t then flat_map old_and_new (held (cut P) d) else map (λ b. P.fields + b) d)) e i in
      let r = flat_in old_and_new (held (cut P) d) v j in
      (r.0, r.1, elim (append_in (option_to_list r.0.old) (option_to_list r.0.new) v r.2) [ inl h ↦ inl (some_item r.0.old v h) | inr h ↦ inr (some_item r.0.new v h) ])

  -- a codelet exports values that it makes
  pub export_made : (d : List ℕ) (v : ℕ) → IsIn v (exports (cut P) d) → (b : ℕ) × IsIn b d × (v ≡ P.fields + b)
  export_made d v i = by_case (has_flank (cut P) d) refl i
    where
      from_held : (h : Held) → IsIn h (held (cut P) d) → (h.old ≡ Some v) ⊎ (h.new ≡ Some v) → (b : ℕ) × IsIn b d × (v ≡ P.fields + b)
      from_held h hi w =
          let r = held_is P ok d h hi in
          elim w [
            | inl o ↦ (let old : if_so (is_shared (cut P) d (P.fields + r.0)) (P.fields + r.0) ≡ Some v = ap (λ (x : Held). x.old) (sym r.4) ∙ o in
                (r.0, r.2, (if_so_some (is_shared (cut P) d (P.fields + r.0)) (P.fields + r.0) v old).1))
            | inr n ↦ (let new : new_of (cut P) d h.array (written (cut P) d h.array) ≡ Some v = ap (λ (x : Held). x.new) (sym r.4) ∙ n in
                new_made d h.array v (written (cut P) d h.array) new)
          ]

      by_case : (t : Bool) → has_flank (cut P) d ≡ t → IsIn v (if t then flat_map old_and_new (held (cut P) d) else map (λ b. P.fields + b) d) → (b : ℕ) × IsIn b d × (v ≡ P.fields + b)
      by_case false e j = map_in (λ b. P.fields + b) d v j
      by_case true e j =
          let r = flat_in old_and_new (held (cut P) d) v j in
          from_held r.0 r.1 (elim (append_in (option_to_list r.0.old) (option_to_list r.0.new) v r.2) [ inl h ↦ inl (some_item r.0.old v h) | inr h ↦ inr (some_item r.0.new v h) ])

  -- so one codelet alone exports a value
  pub one_exporter : (c d : List ℕ) (v : ℕ) → IsIn c (cut P).all → IsIn d (cut P).all → IsIn v (exports (cut P) c) → IsIn v (exports (cut P) d) → c ≡ d
  one_exporter c d v ci di i j =
      let r = export_made c v i in
      let s = export_made d v j in
      let same : r.0 ≡ s.0 = let p = r.2 in let q = s.2 in omega arith in
      one_codelet P ok c d s.0 ci di (subst (λ (b : ℕ). IsIn b c) same r.1) s.1

  pub number_within : (c : List ℕ) (b : ℕ) → IsIn c (cut P).all → IsIn b c → b < 2 * count P
  number_within c b ci bc = by_shape (shape_of P c ci)
    where
      by_shape : Shape P c → b < 2 * count P
      by_shape (Class a is an first) = let h = (class_in P a b (subst (λ (z : List ℕ). IsIn b z) is bc)).0 in omega arith
      by_shape (Twin j is ji) =
          let p : IsIn b ((count P + j) ∷ []) = subst (λ (z : List ℕ). IsIn b z) is bc in
          let t = (twin_inner P j ji).0 in
          elim p [ inl at ↦ omega arith | inr h ↦ absurd h ]

  -- as many containers as fields and twice as many as statements are enough
  pub containers_law : containers (cut P) ≤ P.fields + 2 * count P
  containers_law =
      length-le_from_distinct_below (holders (cut P)) (P.fields + 2 * count P) (once_distinct [] (range_with_len 0 P.fields ++ flat_map (exports (cut P)) (in_order (cut P)))) (λ q e.
      elim (holds_cases (cut P) q (has_in (holders (cut P)) q e)) [
        | inl h ↦ omega arith
        | inr r ↦ (let m = export_made r.0 q r.2 in let is = m.2 in let h = number_within r.0 m.0 r.1 m.1 in omega arith)
      ])

  heads_distinct : (cs : List (List ℕ)) → AreApart cs → ((c : List ℕ) → IsIn c cs → IsIn (slice_index c 0) c) → IsDistinct nat_eq (map (λ c. slice_index c 0) cs)
  unfolding IsDistinct
  heads_distinct [] apart some = tt
  heads_distinct (c ∷ cs) apart some = (
    every_from (λ y. nat_eq (slice_index c 0) y ≡ false) (map (λ d. slice_index d 0) cs) (λ y i.
        let r = map_in (λ (d : List ℕ). slice_index d 0) cs y i in
        ne_eqb (slice_index c 0) y (λ e.
        let none : meet c r.0 ≡ false = every_at (λ d. meet c d ≡ false) cs r.0 apart.0 r.1 in
        let is : slice_index r.0 0 ≡ slice_index c 0 = sym r.2 ∙ sym e in
        absurd (meet_apart c r.0 (slice_index c 0) none (some c (inl refl)) (subst (λ (x : ℕ). IsIn x r.0) is (some r.0 (inr r.1)))))),
    heads_distinct cs apart.1 (λ d i. some d (inr i)),
  )

  first_in_it : (c : List ℕ) (b : ℕ) → IsIn b c → IsIn (slice_index c 0) c
  first_in_it [] b i = absurd i
  first_in_it (x ∷ c) b i = inl refl

  -- codelets that are apart are at most twice as many as the statements
  few_apart : (cs : List (List ℕ)) → AreApart cs → ((c : List ℕ) → IsIn c cs → IsIn c (cut P).all) → length cs ≤ 2 * count P
  few_apart cs apart inside =
      let some : (c : List ℕ) → IsIn c cs → IsIn (slice_index c 0) c = λ c i. let b = some_number P ok c (inside c i) in first_in_it c b.0 b.1 in
      let le : length (map (λ c. slice_index c 0) cs) ≤ 2 * count P =
      length-le_from_distinct_below (map (λ c. slice_index c 0) cs) (2 * count P) (heads_distinct cs apart some) (λ q e.
      let r = map_in (λ (c : List ℕ). slice_index c 0) cs q (has_in (map (λ c. slice_index c 0) cs) q e) in
      let low = number_within r.0 (slice_index r.0 0) (inside r.0 r.1) (some r.0 r.1) in
      let is = r.2 in
      omega arith) in
      let size = length-map cs (λ (c : List ℕ). slice_index c 0) in
      omega arith

  pub all_few : length (cut P).all ≤ 2 * count P
  all_few = few_apart (cut P).all (all_apart P ok) (λ c i. i)

  pub order_few : length (in_order (cut P)) ≤ 2 * count P
  order_few = few_apart (in_order (cut P)) (order_apart P ok) (order_in (cut P))

  pub in_at_any : {X : Type 0} (xs : List X) (k : ℕ) (d : X) → k < length xs → IsIn (get_or xs k d) xs
  in_at_any [] k d h = absurd (omega arith)
  in_at_any (x ∷ xs) zero d h = inl refl
  in_at_any (x ∷ xs) (suc k) d h = inr (in_at_any xs k d (omega arith))

  -- and their numbers are small
  pub all_small : (cs : List (List ℕ)) → count P ≤ 512 → ((c : List ℕ) → IsIn c cs → IsIn c (cut P).all) → All (λ d. All (λ a. a < 1024) d) cs
  all_small cs few inside = λ k d h i e less.
      let low = number_within (get_or cs k d) (get_or (get_or cs k d) i e) (inside (get_or cs k d) (in_at_any cs k d h)) (in_at_any (get_or cs k d) i e less) in
      omega arith
