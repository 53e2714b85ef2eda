-- There are as many containers as values that are live at one stage, at most.
use Rattle.std.proofs.Common.{◌≡◌, ℕ, zero, suc, ◌+◌, ◌<◌, ◌≤◌, ◌≢◌, inl, inr, max, Bool, true, false, nat_le, List, [], ◌∷◌, length, map, filter, fold, refl, sym, ap, ◌∙◌, arith, if◌then◌else◌}
use Rattle.std.proofs.lemmas.Bool.{cases_eq, cases_Bool, le-leb, leb-true, and_parts, and_from, and_right}
use Rattle.std.proofs.lemmas.List.FromFn.{length-range_with_len}
use Rattle.std.specs.List.{AllByRecursion as Every, range_with_len}
use Rattle.container_plan.specs.Facts.{IsIn, AreDistinct}
use Rattle.container_plan.specs.Spans.{greatest, Taken, number_in, least_free, is_live, held, take_next, taken, live_count}
use Rattle.container_plan.proofs.Every.{Every-weaker, Every-zip}
use Rattle.container_plan.proofs.Least.{least_free_is, few_distinct}
use Rattle.container_plan.proofs.Greedy.{value_of, AreApart, taken_apart}

pub in_range : (n a x : ℕ) → a ≤ x → x < a + n → IsIn x (range_with_len a n)
in_range zero a x lo hi = absurd (omega arith)
in_range (suc n) a x lo hi = elim (cases_eq x a) [ inl is ↦ inl is | inr ne ↦ inr (in_range n (a + 1) x (omega arith) (omega arith)) ]

pub le_greatest : (n : ℕ) (ns : List ℕ) → IsIn n ns → n ≤ greatest ns
le_greatest n [] i = absurd i
le_greatest n (m ∷ ns) (inl is) = omega arith
le_greatest n (m ∷ ns) (inr i) = let h : n ≤ greatest ns = le_greatest n ns i in omega arith

pub greatest_le : {X : Type 0} (f : X → ℕ) (n : ℕ) (xs : List X) → Every (λ x. f x ≤ n) xs → greatest (map f xs) ≤ n
greatest_le f n [] p = omega arith
greatest_le f n (x ∷ xs) p = let h : greatest (map f xs) ≤ n = greatest_le f n xs p.1 in omega (arith, p.0, h)

pub in_map : {X : Type 0} (f : X → ℕ) (x : X) (xs : List X) → IsIn x xs → IsIn (f x) (map f xs)
in_map f x [] i = absurd i
in_map f x (y ∷ xs) (inl is) = inl (ap f is)
in_map f x (y ∷ xs) (inr i) = inr (in_map f x xs i)

pub every_le_greatest : {X : Type 0} (f : X → ℕ) (xs : List X) → Every (λ x. f x ≤ greatest (map f xs)) xs
every_le_greatest f [] = tt
every_le_greatest f (x ∷ xs) = (omega arith, Every-weaker (λ y. f y ≤ greatest (map f xs)) (λ y. f y ≤ max (f x) (greatest (map f xs))) (λ y h. omega (arith, h)) xs (every_le_greatest f xs))

module _ {X : Type 0} (p : X → Bool) (x : X) (xs : List X) where
  filter_yes : p x ≡ true → length (filter p (x ∷ xs)) ≡ suc (length (filter p xs))
  filter_yes e = rw e refl

  filter_no : p x ≡ false → length (filter p (x ∷ xs)) ≡ length (filter p xs)
  filter_no e = rw e refl

module _ (made : ℕ → ℕ) where
  -- made at a stage from b on, and none before the one that stands before it
  abbrev pub AreInOrder : ℕ → List ℕ → Type 0
  AreInOrder b [] = Unit {0}
  AreInOrder b (v ∷ vs) = (b ≤ made v) × AreInOrder (made v) vs

module _ (made last : ℕ → ℕ) where
  abbrev pub count_in : List Taken → ℕ → ℕ
  count_in done k = live_count made last (map value_of done) k

  -- where all have been made, those that hold a container are live
  held_count : (k : ℕ) (done : List Taken) → Every (λ (u : Taken). made u.value ≤ k) done → length (held made last k done) ≡ count_in done k
  held_count k [] p = refl
  held_count k (t ∷ ts) p = by_case (nat_le k (last t.value)) refl (le-leb (made t.value) k p.0) (held_count k ts p.1)
    where
      by_case : (b : Bool) → nat_le k (last t.value) ≡ b → nat_le (made t.value) k ≡ true → length (held made last k ts) ≡ count_in ts k
          → length (map (λ (u : Taken). u.container) (if b then t ∷ filter (λ (u : Taken). nat_le k (last u.value)) ts else filter (λ (u : Taken). nat_le k (last u.value)) ts)) ≡ count_in (t ∷ ts) k
      by_case true e f rest =
          let one : is_live made last k t.value ≡ true = and_from _ _ f e in
          let more : count_in (t ∷ ts) k ≡ suc (count_in ts k) = filter_yes (is_live made last k) t.value (map value_of ts) one in
          omega (arith, rest, more)
      by_case false e f rest =
          let one : is_live made last k t.value ≡ false = and_right (nat_le (made t.value) k) (nat_le k (last t.value)) e in
          let more : count_in (t ∷ ts) k ≡ count_in ts k = filter_no (is_live made last k) t.value (map value_of ts) one in
          omega (arith, rest, more)

  count_more : (t : Taken) (ts : List Taken) (k : ℕ) → count_in ts k ≤ count_in (t ∷ ts) k
  count_more t ts k = elim (cases_Bool (is_live made last k t.value)) [
    | inl yes' ↦ omega (arith, filter_yes (is_live made last k) t.value (map value_of ts) yes')
    | inr no' ↦ omega (arith, filter_no (is_live made last k) t.value (map value_of ts) no')
  ]

  -- each container is below the number of values that are live where its value is made
  abbrev AreCounted : List Taken → Type 0
  AreCounted done = Every (λ (t : Taken). suc t.container ≤ count_in done (made t.value)) done

  counted_next : (done : List Taken) (v : ℕ) → made v ≤ last v → Every (λ (u : Taken). made u.value ≤ made v) done → AreCounted done → AreCounted (take_next made last done v)
  counted_next done v short before p =
      let k : ℕ = made v in
      let c : ℕ = least_free (held made last k done) in
      let few : c ≤ length (held made last k done) = (least_free_is (held made last k done)).few in
      let long : length (held made last k done) ≡ count_in done k = held_count k done before in
      let here : is_live made last k v ≡ true = and_from _ _ (le-leb k k (omega arith)) (le-leb k (last v) short) in
      let more : count_in (take_next made last done v) k ≡ suc (count_in done k) = filter_yes (is_live made last k) v (map value_of done) here in
      let first : suc c ≤ count_in (take_next made last done v) k = omega (arith, few, long, more) in (
        first,
        Every-weaker (λ (t : Taken). suc t.container ≤ count_in done (made t.value)) (λ (t : Taken). suc t.container ≤ count_in (take_next made last done v) (made t.value))
            (λ t h. let more : count_in done (made t.value) ≤ count_in (take_next made last done v) (made t.value) = count_more (record { value = v; container = c }) done (made t.value) in omega (arith, h, more)) done p,
      )

  counted_fold : ((v : ℕ) → made v ≤ last v) → (b : ℕ) (vs : List ℕ) (done : List Taken) → AreInOrder made b vs → Every (λ (u : Taken). made u.value ≤ b) done → AreCounted done
      → AreCounted (fold (take_next made last) done vs)
  counted_fold short b [] done sorted before p = p
  counted_fold short b (v ∷ vs) done sorted before p =
      let before' : Every (λ (u : Taken). made u.value ≤ made v) done = Every-weaker (λ (u : Taken). made u.value ≤ b) (λ (u : Taken). made u.value ≤ made v) (λ u h. omega (arith, h, sorted.0)) done before in
      counted_fold short (made v) vs (take_next made last done v) sorted.1 (omega arith, before') (counted_next done v (short v) before' p)

  count_fold : (vs : List ℕ) (done : List Taken) (k : ℕ) → count_in (fold (take_next made last) done vs) k ≡ count_in done k + live_count made last vs k
  count_fold [] done k = omega arith
  count_fold (v ∷ vs) done k =
      let rest : count_in (fold (take_next made last) (take_next made last done v) vs) k ≡ count_in (take_next made last done v) k + live_count made last vs k = count_fold vs (take_next made last done v) k in
      elim (cases_Bool (is_live made last k v)) [
        | inl yes' ↦ omega (arith, rest, filter_yes (is_live made last k) v (map value_of done) yes', filter_yes (is_live made last k) v vs yes')
        | inr no' ↦ omega (arith, rest, filter_no (is_live made last k) v (map value_of done) no', filter_no (is_live made last k) v vs no')
      ]

  abbrev live_containers : ℕ → List Taken → List ℕ
  live_containers k done = map (λ (t : Taken). t.container) (filter (λ (t : Taken). is_live made last k t.value) done)

  every_live : (Q : ℕ → Type 0) (k : ℕ) (done : List Taken) → Every (λ (u : Taken). made u.value ≤ k → k ≤ last u.value → Q u.container) done → Every Q (live_containers k done)
  every_live Q k [] p = tt
  every_live Q k (t ∷ ts) p = by_case (is_live made last k t.value) refl p.0 (every_live Q k ts p.1)
    where
      by_case : (b : Bool) → is_live made last k t.value ≡ b → (made t.value ≤ k → k ≤ last t.value → Q t.container) → Every Q (live_containers k ts)
          → Every Q (map (λ (u : Taken). u.container) (if b then t ∷ filter (λ (u : Taken). is_live made last k u.value) ts else filter (λ (u : Taken). is_live made last k u.value) ts))
      by_case true e q rest = let h = and_parts _ _ e in (q (leb-true (made t.value) k h.0) (leb-true k (last t.value) h.1), rest)
      by_case false e q rest = rest

  live_distinct : (k : ℕ) (done : List Taken) → AreApart made last done → AreDistinct (live_containers k done)
  live_distinct k [] p = tt
  live_distinct k (t ∷ ts) p = by_case (is_live made last k t.value) refl (live_distinct k ts p.1)
    where
      by_case : (b : Bool) → is_live made last k t.value ≡ b → AreDistinct (live_containers k ts)
          → AreDistinct (map (λ (u : Taken). u.container) (if b then t ∷ filter (λ (u : Taken). is_live made last k u.value) ts else filter (λ (u : Taken). is_live made last k u.value) ts))
      by_case true e rest =
          let h = and_parts _ _ e in
          let early : made t.value ≤ k = leb-true (made t.value) k h.0 in (
            every_live (λ c. t.container ≢ c) k ts (Every-weaker (λ (u : Taken). made t.value ≤ last u.value → u.container ≢ t.container) (λ (u : Taken). made u.value ≤ k → k ≤ last u.value → t.container ≢ u.container)
                (λ u q mu lu is. q (omega arith) (sym is)) ts p.0),
            rest,
          )
      by_case false e rest = rest

  length_live : (k : ℕ) (done : List Taken) → length (live_containers k done) ≡ count_in done k
  length_live k [] = refl
  length_live k (t ∷ ts) = elim (cases_Bool (is_live made last k t.value)) [
    | inl yes' ↦ length_map_yes yes' ∙ ap (λ n. suc n) (length_live k ts) ∙ sym (filter_yes (is_live made last k) t.value (map value_of ts) yes')
    | inr no' ↦ length_map_no no' ∙ length_live k ts ∙ sym (filter_no (is_live made last k) t.value (map value_of ts) no')
  ]
    where
      length_map_yes : is_live made last k t.value ≡ true → length (live_containers k (t ∷ ts)) ≡ suc (length (live_containers k ts))
      length_map_yes e = by_bool (is_live made last k t.value) e
        where
          by_bool : (b : Bool) → b ≡ true → length (map (λ (u : Taken). u.container) (if b then t ∷ filter (λ (u : Taken). is_live made last k u.value) ts else filter (λ (u : Taken). is_live made last k u.value) ts)) ≡ suc (length (live_containers k ts))
          by_bool true e = refl
          by_bool false e = absurd (cc)

      length_map_no : is_live made last k t.value ≡ false → length (live_containers k (t ∷ ts)) ≡ length (live_containers k ts)
      length_map_no e = by_bool (is_live made last k t.value) e
        where
          by_bool : (b : Bool) → b ≡ false → length (map (λ (u : Taken). u.container) (if b then t ∷ filter (λ (u : Taken). is_live made last k u.value) ts else filter (λ (u : Taken). is_live made last k u.value) ts)) ≡ length (live_containers k ts)
          by_bool true e = absurd (cc)
          by_bool false e = refl

  -- at each stage there are no more live values than containers
  pub live_few : (done : List Taken) → AreApart made last done → (k : ℕ) → count_in done k ≤ number_in done
  live_few done p k =
      let below : Every (λ (t : Taken). suc t.container ≤ number_in done) done = every_le_greatest (λ (t : Taken). suc t.container) done in
      let among : Every (λ c. IsIn c (range_with_len 0 (number_in done))) (live_containers k done) =
      every_live (λ c. IsIn c (range_with_len 0 (number_in done))) k done
      (Every-weaker (λ (t : Taken). suc t.container ≤ number_in done) (λ (u : Taken). made u.value ≤ k → k ≤ last u.value → IsIn u.container (range_with_len 0 (number_in done)))
      (λ u h mu lu. in_range (number_in done) 0 u.container (omega arith) (omega (arith, h))) done below) in
      let few : length (live_containers k done) ≤ length (range_with_len 0 (number_in done)) = few_distinct (live_containers k done) (range_with_len 0 (number_in done)) (live_distinct k done p) among in
      omega (arith, few, length_live k done, length-range_with_len 0 (number_in done))

  -- the number of containers is the greatest number of values that are live at one of the stages before n
  pub number_is : ((v : ℕ) → made v ≤ last v) → (n : ℕ) (vs : List ℕ) → AreInOrder made 0 vs → Every (λ v. made v < n) vs
      → number_in (taken made last vs) ≡ greatest (map (live_count made last vs) (range_with_len 0 n))
  number_is short n vs sorted early =
      let done : List Taken = taken made last vs in
      let m : ℕ = greatest (map (live_count made last vs) (range_with_len 0 n)) in
      let same : (k : ℕ) → count_in done k ≡ live_count made last vs k = λ k. omega (arith, count_fold vs [] k) in
      let counted : AreCounted done = counted_fold short 0 vs [] sorted tt tt in
      let up : Every (λ (t : Taken). suc t.container ≤ m) done =
      Every-weaker (λ (t : Taken). (suc t.container ≤ count_in done (made t.value)) × (made t.value < n)) (λ (t : Taken). suc t.container ≤ m)
      (λ t h. let i : live_count made last vs (made t.value) ≤ m = le_greatest _ _ (in_map (live_count made last vs) (made t.value) (range_with_len 0 n) (in_range n 0 (made t.value) (omega arith) (omega (arith, h.1)))) in omega (arith, h.0, same (made t.value), i))
      done (Every-zip _ _ done counted (early_fold vs [] early tt)) in
      let high : number_in done ≤ m = greatest_le (λ (t : Taken). suc t.container) m done up in
      let low : m ≤ number_in done = greatest_le (live_count made last vs) (number_in done) (range_with_len 0 n) (Every-always' (range_with_len 0 n) (λ k. omega (arith, live_few done (taken_apart made last vs) k, same k))) in
      omega arith
    where
      Every-always' : (ks : List ℕ) → ((k : ℕ) → live_count made last vs k ≤ number_in (taken made last vs)) → Every (λ k. live_count made last vs k ≤ number_in (taken made last vs)) ks
      Every-always' [] f = tt
      Every-always' (k ∷ ks) f = (f k, Every-always' ks f)

      early_fold : (us : List ℕ) (done : List Taken) → Every (λ v. made v < n) us → Every (λ (t : Taken). made t.value < n) done → Every (λ (t : Taken). made t.value < n) (fold (take_next made last) done us)
      early_fold [] done p q = q
      early_fold (u ∷ us) done p q = early_fold us (take_next made last done u) p.1 (p.0, q)
