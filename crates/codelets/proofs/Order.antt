-- The codelets in their order.
use Rattle.std.proofs.Common.{◌≡◌, ℕ, zero, suc, ◌+◌, ◌<◌, ◌≤◌, Bool, true, false, cond, nat_eq, ◌&&◌, if◌then◌else◌, List, [], ◌∷◌, ◌++◌, Option, Some, None, map, refl, sym, ap, ◌∙◌, subst, arith, inl, inr, ◌≢◌}
use Rattle.std.specs.Prelude.{◌||◌, slice_get}
use Rattle.std.specs.List.{filter, list_any, filter_map, flat_map, range_with_len, cons_option, AllByRecursion as Every}
use Rattle.std.proofs.lemmas.Bool.{eqb-true, eq-eqb}
use Rattle.codelets.specs.Lists.{IsIn, meet, level_by, AreDistinct, AreApart}
use Rattle.codelets.specs.Linked.{Linked, IsLinked, class_of, count, is_first, is_inner, is_so, is_used_outside, numbers, together, twins_in, twins_of, uses_value}
use Rattle.codelets.specs.Cut.{Cut, cut, at_level, depth, in_order, level, longest, uses_codelet}
use Rattle.codelets.specs.Held.{Held, held, held_at}
use Rattle.codelets.proofs.Lists.{in_filter, filter_in, in_flat, flat_in, map_in, append_in, in_range, range_in, meet_none, meet_apart, at_in}
use Rattle.codelets.proofs.Classes.{Shape, Class, Twin, shape_of, in_class, class_in, one_codelet, first_same, twins_from, together_self, together_back, together_joined}
use Rattle.codelets.proofs.Levels.{le_max_of}
use Rattle.codelets.proofs.Falls.{level_law}
use Rattle.codelets.proofs.Slots.{held_array, one_holder}

module _ {X : Type 0} where
  pub every_from : (Q : X → Type 0) (xs : List X) → ((x : X) → IsIn x xs → Q x) → Every Q xs
  every_from Q [] each = tt
  every_from Q (x ∷ xs) each = (each x (inl refl), every_from Q xs (λ y i. each y (inr i)))

  pub every_at : (Q : X → Type 0) (xs : List X) (x : X) → Every Q xs → IsIn x xs → Q x
  every_at Q [] x p i = absurd i
  every_at Q (y ∷ xs) x p (inl is) = subst Q (sym is) p.0
  every_at Q (y ∷ xs) x p (inr i) = every_at Q xs x p.1 i

  -- f does not fall along a list
  abbrev IsRising : (X → ℕ) → List X → Type 0
  IsRising f [] = Unit {0}
  IsRising f (x ∷ xs) = ((y : X) → IsIn y xs → f x ≤ f y) × IsRising f xs

  rising_same : (f : X → ℕ) (l : ℕ) (xs : List X) → ((x : X) → IsIn x xs → f x ≡ l) → IsRising f xs
  rising_same f l [] each = tt
  rising_same f l (x ∷ xs) each = (λ y i. let p = each x (inl refl) in let q = each y (inr i) in omega arith, rising_same f l xs (λ y i. each y (inr i)))

  rising_append : (f : X → ℕ) (xs ys : List X) → IsRising f xs → IsRising f ys → ((x y : X) → IsIn x xs → IsIn y ys → f x ≤ f y) → IsRising f (xs ++ ys)
  rising_append f [] ys p q across = q
  rising_append f (x ∷ xs) ys p q across = (λ y i. elim (append_in xs ys y i) [ inl h ↦ p.0 y h | inr h ↦ across x y (inl refl) h ], rising_append f xs ys p.1 q (λ z y i j. across z y (inr i) j))

  -- where f is less, the place is before
  rising_places : (f : X → ℕ) (xs : List X) (k m : ℕ) (x y : X) → IsRising f xs → slice_get xs k ≡ Some x → slice_get xs m ≡ Some y → f x < f y → k < m
  rising_places f [] k m x y r p q lt = absurd (cc)
  rising_places f (z ∷ xs) zero zero x y r p q lt = absurd (let same : x ≡ y = cc in let e : f x ≡ f y = ap f same in omega arith)
  rising_places f (z ∷ xs) zero (suc m) x y r p q lt = omega arith
  rising_places f (z ∷ xs) (suc k) zero x y r p q lt =
      absurd (let same : z ≡ y = cc in let e : f z ≡ f y = ap f same in let le = r.0 x (at_in xs k x p) in omega arith)
  rising_places f (z ∷ xs) (suc k) (suc m) x y r p q lt = let h = rising_places f xs k m x y r.1 p q lt in omega arith

rising_levels : (D : Cut) (k n : ℕ) → IsRising (level D) (flat_map (at_level D) (range_with_len k n))
rising_levels D k zero = tt
rising_levels D k (suc n) =
    rising_append (level D) (at_level D k) (flat_map (at_level D) (range_with_len (k + 1) n))
    (rising_same (level D) k (at_level D k) (λ x i. eqb-true (level D x) k (filter_in (λ c. nat_eq (level D c) k) D.all x i).1))
    (rising_levels D (k + 1) n)
    (λ x y i j.
    let p = eqb-true (level D x) k (filter_in (λ c. nat_eq (level D c) k) D.all x i).1 in
    let r = flat_in (at_level D) (range_with_len (k + 1) n) y j in
    let q = eqb-true (level D y) r.0 (filter_in (λ c. nat_eq (level D c) r.0) D.all y r.2).1 in
    let low = (range_in (k + 1) n r.0 r.1).0 in
    omega arith)

level_one : {X : Type 0} (uses : X → X → Bool) (all : List X) (n : ℕ) (c : X) → 1 ≤ level_by uses all n c
level_one uses all zero c = omega arith
level_one uses all (suc n) c = omega arith

module _ (D : Cut) where
  -- the order has the codelets and nothing else
  pub order_in : (c : List ℕ) → IsIn c (in_order D) → IsIn c D.all
  order_in c i = let r = flat_in (at_level D) (range_with_len 1 (depth D)) c i in (filter_in (λ d. nat_eq (level D d) r.0) D.all c r.2).0

  pub in_the_order : (c : List ℕ) → IsIn c D.all → IsIn c (in_order D)
  in_the_order c i =
      let low = level_one (uses_codelet D) D.all (longest D) c in
      let high = le_max_of (level D) D.all c i in
      in_flat (at_level D) (range_with_len 1 (depth D)) (level D c) c (in_range 1 (depth D) (level D c) (omega arith) (omega arith)) (in_filter (λ d. nat_eq (level D d) (level D c)) D.all c i (eq-eqb (level D c) (level D c) refl))

-- what a codelet uses stands before it
pub before_law : (P : Linked) → IsLinked P → (k m : ℕ) (c d : List ℕ) → slice_get (in_order (cut P)) k ≡ Some d → slice_get (in_order (cut P)) m ≡ Some c → uses_codelet (cut P) c d ≡ true → k < m
before_law P ok k m c d p q u =
    rising_places (level (cut P)) (in_order (cut P)) k m d c (rising_levels (cut P) 1 (depth (cut P))) p q
    (level_law P ok c d (order_in (cut P) c (at_in (in_order (cut P)) m c q)) (order_in (cut P) d (at_in (in_order (cut P)) k d p)) u)

apart_append : (cs ds : List (List ℕ)) → AreApart cs → AreApart ds → ((c d : List ℕ) → IsIn c cs → IsIn d ds → meet c d ≡ false) → AreApart (cs ++ ds)
apart_append [] ds p q across = q
apart_append (c ∷ cs) ds p q across = (
  every_from (λ d. meet c d ≡ false) (cs ++ ds) (λ d i. elim (append_in cs ds d i) [ inl h ↦ every_at (λ e. meet c e ≡ false) cs d p.0 h | inr h ↦ across c d (inl refl) h ]),
  apart_append cs ds p.1 q (λ e d i j. across e d (inr i) j),
)

apart_filter : (t : List ℕ → Bool) (cs : List (List ℕ)) → AreApart cs → AreApart (filter t cs)
apart_filter t [] p = tt
apart_filter t (c ∷ cs) p = by_case (t c) (apart_filter t cs p.1)
  where
    by_case : (x : Bool) → AreApart (filter t cs) → AreApart (cond x (c ∷ filter t cs) (filter t cs))
    by_case true q = (every_from (λ d. meet c d ≡ false) (filter t cs) (λ d i. every_at (λ e. meet c e ≡ false) cs d p.0 (filter_in t cs d i).0), q)
    by_case false q = q

module _ (P : Linked) (ok : IsLinked P) where
  apart_classes : (k n : ℕ) → k + n ≤ count P → AreApart (map (class_of P) (filter (is_first P) (range_with_len k n)))
  apart_classes k zero h = tt
  apart_classes k (suc n) h = by_case (is_first P k) refl (apart_classes (k + 1) n (omega arith))
    where
      by_case : (x : Bool) → is_first P k ≡ x → AreApart (map (class_of P) (filter (is_first P) (range_with_len (k + 1) n)))
          → AreApart (map (class_of P) (cond x (k ∷ filter (is_first P) (range_with_len (k + 1) n)) (filter (is_first P) (range_with_len (k + 1) n))))
      by_case false e q = q
      by_case true e q = (
        every_from (λ d. meet (class_of P k) d ≡ false) (map (class_of P) (filter (is_first P) (range_with_len (k + 1) n))) (λ d i.
            let r = map_in (class_of P) (filter (is_first P) (range_with_len (k + 1) n)) d i in
            let s = filter_in (is_first P) (range_with_len (k + 1) n) r.0 r.1 in
            let between = range_in (k + 1) n r.0 s.0 in
            let low = between.0 in
            let high = between.1 in
            meet_none (class_of P k) d (λ z zk zd.
            let p = class_in P k z zk in
            let o = class_in P r.0 z (subst (λ (c : List ℕ). IsIn z c) r.2 zd) in
            let kn : k < count P = omega arith in
            let rn : r.0 < count P = omega arith in
            let t : together P r.0 k ≡ true = together_joined P ok r.0 z k rn p.0 kn o.1 (together_back P ok k z p.1) in
            let le : r.0 ≤ k = first_same P ok r.0 k rn kn s.1 e t in
            absurd (omega arith))),
        q,
      )

  apart_twins : (k n : ℕ) → AreApart (map (λ a. (count P + a) ∷ []) (twins_in P (range_with_len k n)))
  apart_twins k zero = tt
  apart_twins k (suc n) =
      by_case (is_inner P k && (is_used_outside P k || list_any (is_so P (uses_value (P.fields + k))) (twins_in P (range_with_len (k + 1) n)))) (apart_twins (k + 1) n)
    where
      by_case : (x : Bool) → AreApart (map (λ a. (count P + a) ∷ []) (twins_in P (range_with_len (k + 1) n)))
          → AreApart (map (λ a. (count P + a) ∷ []) (if x then k ∷ twins_in P (range_with_len (k + 1) n) else twins_in P (range_with_len (k + 1) n)))
      by_case false q = q
      by_case true q = (
        every_from (λ d. meet ((count P + k) ∷ []) d ≡ false) (map (λ a. (count P + a) ∷ []) (twins_in P (range_with_len (k + 1) n))) (λ d i.
            let r = map_in (λ (a : ℕ). (count P + a) ∷ []) (twins_in P (range_with_len (k + 1) n)) d i in
            let low = (range_in (k + 1) n r.0 (twins_from P (range_with_len (k + 1) n) r.0 r.1).0).0 in
            meet_none ((count P + k) ∷ []) d (λ z zk zd.
            let zt : IsIn z ((count P + r.0) ∷ []) = subst (λ (c : List ℕ). IsIn z c) r.2 zd in
            elim zk [ inl p ↦ elim zt [ inl q ↦ absurd (omega arith) | inr h ↦ h ] | inr h ↦ h ])),
        q,
      )

  pub all_apart : AreApart (cut P).all
  all_apart =
      apart_append (map (class_of P) (filter (is_first P) (numbers P))) (map (λ a. (count P + a) ∷ []) (twins_of P)) (apart_classes 0 (count P) (omega arith)) (apart_twins 0 (count P)) (λ c d i j.
      let r = map_in (class_of P) (filter (is_first P) (numbers P)) c i in
      let s = map_in (λ (a : ℕ). (count P + a) ∷ []) (twins_of P) d j in
      meet_none c d (λ z zc zd.
      let p = (class_in P r.0 z (subst (λ (x : List ℕ). IsIn z x) r.2 zc)).0 in
      let q : IsIn z ((count P + s.0) ∷ []) = subst (λ (x : List ℕ). IsIn z x) s.2 zd in
      elim q [ inl at ↦ absurd (omega arith) | inr h ↦ h ]))

  apart_levels : (k n : ℕ) → AreApart (flat_map (at_level (cut P)) (range_with_len k n))
  apart_levels k zero = tt
  apart_levels k (suc n) =
      apart_append (at_level (cut P) k) (flat_map (at_level (cut P)) (range_with_len (k + 1) n)) (apart_filter (λ c. nat_eq (level (cut P) c) k) (cut P).all all_apart) (apart_levels (k + 1) n) (λ c d i j.
      let p = filter_in (λ x. nat_eq (level (cut P) x) k) (cut P).all c i in
      let lc = eqb-true (level (cut P) c) k p.1 in
      let r = flat_in (at_level (cut P)) (range_with_len (k + 1) n) d j in
      let q = filter_in (λ x. nat_eq (level (cut P) x) r.0) (cut P).all d r.2 in
      let ld = eqb-true (level (cut P) d) r.0 q.1 in
      let low = (range_in (k + 1) n r.0 r.1).0 in
      meet_none c d (λ z zc zd. let same : level (cut P) c ≡ level (cut P) d = ap (level (cut P)) (one_codelet P ok c d z p.0 q.0 zc zd) in absurd (omega arith)))

  -- each codelet stands in the order once
  pub order_apart : AreApart (in_order (cut P))
  order_apart = apart_levels 1 (depth (cut P))

  -- the arrays of a codelet rise
  rising_arrays : (c : List ℕ) (k n : ℕ) → AreDistinct (map (λ h. h.array) (filter_map (held_at (cut P) c) (range_with_len k n))) × ((h : Held) → IsIn h (filter_map (held_at (cut P) c) (range_with_len k n)) → k ≤ h.array)
  rising_arrays c k zero = (tt, λ h i. absurd i)
  rising_arrays c k (suc n) = by_case (held_at (cut P) c k) refl (rising_arrays c (k + 1) n)
    where
      by_case : (o : Option Held) → held_at (cut P) c k ≡ o
          → AreDistinct (map (λ h. h.array) (filter_map (held_at (cut P) c) (range_with_len (k + 1) n))) × ((h : Held) → IsIn h (filter_map (held_at (cut P) c) (range_with_len (k + 1) n)) → k + 1 ≤ h.array)
          → AreDistinct (map (λ h. h.array) (cons_option o (filter_map (held_at (cut P) c) (range_with_len (k + 1) n)))) × ((h : Held) → IsIn h (cons_option o (filter_map (held_at (cut P) c) (range_with_len (k + 1) n))) → k ≤ h.array)
      by_case None e r = (r.0, λ h i. let le = r.1 h i in omega arith)
      by_case (Some g) e r =
          let at : g.array ≡ k = held_array P c k g e in (
            (
              every_from (λ y. g.array ≢ y) (map (λ h. h.array) (filter_map (held_at (cut P) c) (range_with_len (k + 1) n))) (λ y i.
                  let s = map_in (λ (h : Held). h.array) (filter_map (held_at (cut P) c) (range_with_len (k + 1) n)) y i in
                  let low = r.1 s.0 s.1 in
                  λ q. absurd (omega arith)),
              r.0,
            ),
            λ h i. elim i [ inl is ↦ (let same : h.array ≡ g.array = ap (λ (x : Held). x.array) is in omega arith) | inr j ↦ (let le = r.1 h j in omega arith) ],
          )

  arrays_of : List ℕ → List ℕ
  arrays_of c = map (λ h. h.array) (held (cut P) c)

  distinct_append : (xs ys : List ℕ) → AreDistinct xs → AreDistinct ys → ((x y : ℕ) → IsIn x xs → IsIn y ys → x ≢ y) → AreDistinct (xs ++ ys)
  distinct_append [] ys p q across = q
  distinct_append (x ∷ xs) ys p q across = (
    every_from (λ y. x ≢ y) (xs ++ ys) (λ y i. elim (append_in xs ys y i) [ inl h ↦ every_at (λ z. x ≢ z) xs y p.0 h | inr h ↦ across x y (inl refl) h ]),
    distinct_append xs ys p.1 q (λ z y i j. across z y (inr i) j),
  )

  arrays_apart : (cs : List (List ℕ)) → ((c : List ℕ) → IsIn c cs → IsIn c (cut P).all) → ((c : List ℕ) → IsIn c cs → (b : ℕ) × IsIn b c) → AreApart cs → AreDistinct (flat_map (λ c. map (λ h. h.array) (held (cut P) c)) cs)
  arrays_apart [] inside some apart = tt
  arrays_apart (c ∷ cs) inside some apart =
      distinct_append (map (λ h. h.array) (held (cut P) c)) (flat_map (λ d. map (λ h. h.array) (held (cut P) d)) cs) (rising_arrays c 0 P.arrays).0
      (arrays_apart cs (λ d i. inside d (inr i)) (λ d i. some d (inr i)) apart.1) (λ x y i j.
      let g = map_in (λ (h : Held). h.array) (held (cut P) c) x i in
      let d = flat_in (λ (e : List ℕ). map (λ h. h.array) (held (cut P) e)) cs y j in
      let h = map_in (λ (z : Held). z.array) (held (cut P) d.0) y d.2 in
      λ q.
      let same : g.0.array ≡ h.0.array = sym g.2 ∙ q ∙ h.2 in
      let one : c ≡ d.0 = one_holder P ok c d.0 g.0 h.0 (inside c (inl refl)) (inside d.0 (inr d.1)) g.1 h.1 same in
      let none : meet c d.0 ≡ false = every_at (λ e. meet c e ≡ false) cs d.0 apart.0 d.1 in
      let b = some c (inl refl) in
      absurd (meet_apart c d.0 b.0 none b.1 (subst (λ (e : List ℕ). IsIn b.0 e) one b.1)))

  pub some_number : (c : List ℕ) → IsIn c (cut P).all → (b : ℕ) × IsIn b c
  some_number c i = by_case (shape_of P c i)
    where
      by_case : Shape P c → (b : ℕ) × IsIn b c
      by_case (Class a is an first) = (a, subst (λ (z : List ℕ). IsIn a z) (sym is) (in_class P a a an (together_self P ok a an)))
      by_case (Twin j is ji) = (count P + j, subst (λ (z : List ℕ). IsIn (count P + j) z) (sym is) (inl refl))

  -- no array is held twice, over all codelets
  pub arrays_law : AreDistinct (flat_map (λ c. map (λ h. h.array) (held (cut P) c)) (in_order (cut P)))
  arrays_law = arrays_apart (in_order (cut P)) (order_in (cut P)) (λ c i. some_number c (order_in (cut P) c i)) order_apart
