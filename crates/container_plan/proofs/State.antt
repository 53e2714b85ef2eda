-- One value more, and one stage more.
use Rattle.std.proofs.Common.{◌≡◌, ℕ, zero, suc, ◌+◌, ◌<◌, ◌≤◌, ◌≢◌, ◌⊎◌, inl, inr, max, Bool, true, false, nat_eq, nat_le, nat_lt, List, [], ◌∷◌, ◌++◌, length, map, filter, flat_map, fold, set, refl, sym, ap, ◌∙◌, subst, arith, if◌then◌else◌, get_or-set_other, length-set, length-append, take, drop, drop_of_length-le, take_all}
use Rattle.std.specs.Prelude.{slice_index}
use Rattle.std.proofs.lemmas.Bool.{cases_eq, cases_lt, eq-eqb, le-leb, lt-leb, ne_eqb, lt-ltb, le-ltb}
use Rattle.std.proofs.lemmas.List.{append-nil}
use Rattle.std.proofs.lemmas.List.Sums.{fold-append}
use Rattle.std.proofs.lemmas.List.Elements.{filter-append}
use Rattle.std.proofs.lemmas.Grind.{flat_map-append}
use Rattle.std.specs.List.{range_with_len}
use Rattle.container_plan.specs.Facts.{IsIn}
use Rattle.container_plan.specs.Spans.{Taken, container_in, least_free, held, take_next, taken, order}
use Rattle.container_plan.specs.State.{occupied, IsState, made_at, taken_before}
use Rattle.container_plan.proofs.Least.{least_free_one}
use Rattle.container_plan.proofs.Made.{choose_yes, choose_no}

pub index_same : (xs : List ℕ) (c w : ℕ) → c < length xs → slice_index (set xs c w) c ≡ w
index_same [] c w h = absurd (omega arith)
index_same (x ∷ xs) zero w h = refl
index_same (x ∷ xs) (suc c) w h = index_same xs c w (omega arith)

index_end : (xs : List ℕ) (w : ℕ) → slice_index (xs ++ w ∷ []) (length xs) ≡ w
index_end [] w = refl
index_end (x ∷ xs) w = index_end xs w

index_front : (xs ys : List ℕ) (c : ℕ) → c < length xs → slice_index (xs ++ ys) c ≡ slice_index xs c
index_front [] ys c h = absurd (omega arith)
index_front (x ∷ xs) ys zero h = refl
index_front (x ∷ xs) ys (suc c) h = index_front xs ys c (omega arith)

-- what a container that is occupied changes
record IsOccupied (until : List ℕ) (c stage : ℕ) (after : List ℕ) : Type 0 where
  pub long : length after ≡ max (suc c) (length until)
  pub here : slice_index after c ≡ stage
  pub elsewhere : (d : ℕ) → d ≢ c → slice_index after d ≡ slice_index until d

is_occupied : (until : List ℕ) (c stage : ℕ) → c ≤ length until → IsOccupied until c stage (occupied until c stage)
is_occupied until c stage h = elim (cases_lt c (length until)) [
  | inl less ↦
      subst (IsOccupied until c stage) (sym (choose_yes (nat_lt c (length until)) (set until c stage) (until ++ stage ∷ []) (lt-ltb c (length until) less)))
      (record { long = omega (arith, length-set until c stage); here = index_same until c stage less; elsewhere = λ d ne. get_or-set_other until c d stage 0 ne })
  | inr more ↦
      let is : c ≡ length until = omega arith in
      subst (IsOccupied until c stage) (sym (choose_no (nat_lt c (length until)) (set until c stage) (until ++ stage ∷ []) (le-ltb c (length until) more)))
      (record {
        long = omega (arith, length-append until (stage ∷ []));
        here = ap (slice_index (until ++ stage ∷ [])) is ∙ index_end until stage;
        elsewhere = λ d ne. elim (cases_lt d (length until)) [ inl low ↦ index_front until (stage ∷ []) d low | inr high ↦ past until d (omega arith) ];
      })
]
  where
    past : (xs : List ℕ) (d : ℕ) → length xs < d → slice_index (xs ++ stage ∷ []) d ≡ slice_index xs d
    past [] zero g = absurd (omega arith)
    past [] (suc d) g = refl
    past (x ∷ xs) zero g = absurd (omega arith)
    past (x ∷ xs) (suc d) g = past xs d (omega arith)

module _ (made last : ℕ → ℕ) where
  -- the container that the code finds is the least free one
  least_is : (names until : List ℕ) (done : List Taken) (v c : ℕ) → IsState made last names until done → c ≤ length until → ((d : ℕ) → d < c → made v ≤ slice_index until d)
      → (c < length until → slice_index until c < made v) → least_free (held made last (made v) done) ≡ c
  least_is names until done v c s high below free =
      least_free_one (held made last (made v) done) c (λ d h. s.stays (made v) d (omega arith) (below d h))
      (λ i. let e = s.ends (made v) c i in let f : slice_index until c < made v = free e.0 in omega (arith, e.1, f))

  pub state_next : (names until : List ℕ) (done : List Taken) (v c : ℕ) → IsState made last names until done → made v ≤ last v → c ≤ length until → ((d : ℕ) → d < c → made v ≤ slice_index until d)
      → (c < length until → slice_index until c < made v) → v < length names → IsState made last (set names v c) (occupied until c (last v)) (take_next made last done v)
  state_next names until done v c s short high below free low =
      let is : least_free (held made last (made v) done) ≡ c = least_is names until done v c s high below free in
      subst (λ d. IsState made last (set names v c) (occupied until c (last v)) (record { value = v; container = d } ∷ done)) (sym is) after
    where
      o : IsOccupied until c (last v) (occupied until c (last v))
      o = is_occupied until c (last v) high

      more : List Taken
      more = record { value = v; container = c } ∷ done

      kept : (k d : ℕ) → IsIn d (held made last k done) → IsIn d (held made last k (record { value = v; container = c } ∷ done))
      kept k d i = by_bool (nat_le k (last v))
        where
          by_bool : (b : Bool) → IsIn d (map (λ (u : Taken). u.container) (if b then record { value = v; container = c } ∷ filter (λ (u : Taken). nat_le k (last u.value)) done else filter (λ (u : Taken). nat_le k (last u.value)) done))
          by_bool true = inr i
          by_bool false = i

      first : (k : ℕ) → k ≤ last v → IsIn c (held made last k (record { value = v; container = c } ∷ done))
      first k h = by_bool (nat_le k (last v)) (le-leb k (last v) h)
        where
          by_bool : (b : Bool) → b ≡ true → IsIn c (map (λ (u : Taken). u.container) (if b then record { value = v; container = c } ∷ filter (λ (u : Taken). nat_le k (last u.value)) done else filter (λ (u : Taken). nat_le k (last u.value)) done))
          by_bool true e = inl refl
          by_bool false e = absurd (cc)

      cases : (k d : ℕ) → IsIn d (held made last k (record { value = v; container = c } ∷ done)) → ((d ≡ c) × (k ≤ last v)) ⊎ IsIn d (held made last k done)
      cases k d = by_bool (nat_le k (last v)) refl
        where
          by_bool : (b : Bool) → nat_le k (last v) ≡ b → IsIn d (map (λ (u : Taken). u.container) (if b then record { value = v; container = c } ∷ filter (λ (u : Taken). nat_le k (last u.value)) done else filter (λ (u : Taken). nat_le k (last u.value)) done))
              → ((d ≡ c) × (k ≤ last v)) ⊎ IsIn d (held made last k done)
          by_bool true e (inl j) = inl (j, leb-true' k (last v) e)
            where
              leb-true' : (a b : ℕ) → nat_le a b ≡ true → a ≤ b
              leb-true' a b t = elim (cases_lt b a) [ inl less ↦ absurd (let f : nat_le a b ≡ false = lt-leb a b less in cc) | inr le ↦ le ]
          by_bool true e (inr j) = inr j
          by_bool false e j = inr j

      after : IsState made last (set names v c) (occupied until c (last v)) (record { value = v; container = c } ∷ done)
      after = record {
        stays = λ k d h l. elim (cases_eq d c) [
          | inl e ↦ let m : k ≤ last v = omega (arith, o.here, ap (slice_index (occupied until c (last v))) e, l) in subst (λ z. IsIn z (held made last k (record { value = v; container = c } ∷ done))) (sym e) (first k m)
          | inr ne ↦ kept k d (s.stays k d (omega (arith, o.long, h, high)) (omega (arith, o.elsewhere d ne, l)))
        ];
        ends = λ k d i. elim (cases k d i) [
          | inl e ↦ (omega (arith, o.long, e.0), omega (arith, o.here, ap (slice_index (occupied until c (last v))) e.0, e.1))
          | inr j ↦
              let e = s.ends k d j in (
                omega (arith, o.long, e.0),
                elim (cases_eq d c) [
                  | inl q ↦
                      let f : slice_index until c < made v = free (omega (arith, e.0, q)) in
                      let g : slice_index until d ≡ slice_index until c = ap (slice_index until) q in
                      omega (arith, o.here, ap (slice_index (occupied until c (last v))) q, e.1, f, g, short)
                  | inr ne ↦ omega (arith, o.elsewhere d ne, e.1)
                ],
              )
        ];
        named = λ w h. elim (cases_eq v w) [
          | inl e ↦ ap (slice_index (set names v c)) (sym e) ∙ index_same names v c low ∙ sym (choose_yes (nat_eq v w) c (container_in done w) (eq-eqb v w e))
          | inr ne ↦ get_or-set_other names v w c 0 (λ e. ne (sym e)) ∙ s.named w (omega (arith, length-set names v c, h)) ∙ sym (choose_no (nat_eq v w) c (container_in done w) (ne_eqb v w ne))
        ];
        number = omega (arith, o.long, s.number);
      }

  pub state_none : (names : List ℕ) → ((v : ℕ) → v < length names → slice_index names v ≡ 0) → IsState made last names [] []
  state_none names zeros = record {
    stays = λ k c h l. absurd (omega arith);
    ends = λ k c i. absurd i;
    named = λ v h. zeros v h;
    number = refl;
  }

range_more : (a n : ℕ) → range_with_len a (suc n) ≡ range_with_len a n ++ (a + n) ∷ []
range_more a zero = let e : a ≡ a + 0 = omega arith in ap (λ z. z ∷ []) e
range_more a (suc n) = let e : (a + 1) + n ≡ a + suc n = omega arith in ap (λ z. a ∷ z) (range_more (a + 1) n ∙ ap (λ z. range_with_len (a + 1) n ++ z ∷ []) e)

-- the values made at a stage, one number more
pub made_at_yes : (made : List ℕ) (k n : ℕ) → slice_index made n ≡ k → made_at made k (n + 1) ≡ made_at made k n ++ n ∷ []
made_at_yes made k n e =
    let z : 0 + n ≡ n = omega arith in
    let one : filter (λ v. nat_eq (slice_index made v) k) (n ∷ []) ≡ n ∷ [] = choose_yes (nat_eq (slice_index made n) k) (n ∷ []) [] (eq-eqb (slice_index made n) k e) in
    let more : n + 1 ≡ suc n = omega arith in
    ap (λ m. made_at made k m) more ∙ ap (λ z. filter (λ v. nat_eq (slice_index made v) k) z) (range_more 0 n ∙ ap (λ m. range_with_len 0 n ++ m ∷ []) z)
    ∙ filter-append (λ v. nat_eq (slice_index made v) k) (range_with_len 0 n) (n ∷ []) ∙ ap (λ z. made_at made k n ++ z) one

pub made_at_no : (made : List ℕ) (k n : ℕ) → slice_index made n ≢ k → made_at made k (n + 1) ≡ made_at made k n
made_at_no made k n ne =
    let z : 0 + n ≡ n = omega arith in
    let one : filter (λ v. nat_eq (slice_index made v) k) (n ∷ []) ≡ [] = choose_no (nat_eq (slice_index made n) k) (n ∷ []) [] (ne_eqb (slice_index made n) k ne) in
    let more : n + 1 ≡ suc n = omega arith in
    ap (λ m. made_at made k m) more ∙ ap (λ z. filter (λ v. nat_eq (slice_index made v) k) z) (range_more 0 n ∙ ap (λ m. range_with_len 0 n ++ m ∷ []) z)
    ∙ filter-append (λ v. nat_eq (slice_index made v) k) (range_with_len 0 n) (n ∷ []) ∙ ap (λ z. made_at made k n ++ z) one ∙ append-nil (made_at made k n)

-- one stage more
pub taken_more : (made last : List ℕ) (k : ℕ) → taken_before made last (k + 1) ≡ fold (take_next (slice_index made) (slice_index last)) (taken_before made last k) (made_at made k (length made))
taken_more made last k =
    let z : 0 + k ≡ k = omega arith in
    let more : k + 1 ≡ suc k = omega arith in
    let numbers : List ℕ = range_with_len 0 (length made) in
    let part : ℕ → List ℕ = λ k. filter (λ v. nat_eq (slice_index made v) k) numbers in
    let is : order (slice_index made) numbers (k + 1) ≡ order (slice_index made) numbers k ++ made_at made k (length made) =
    ap (λ m. order (slice_index made) numbers m) more ∙ ap (λ z. flat_map part z) (range_more 0 k ∙ ap (λ m. range_with_len 0 k ++ m ∷ []) z)
    ∙ flat_map-append part (range_with_len 0 k) (k ∷ []) ∙ ap (λ z. order (slice_index made) numbers k ++ z) (append-nil (part k)) in
    ap (λ vs. taken (slice_index made) (slice_index last) vs) is
    ∙ fold-append (take_next (slice_index made) (slice_index last)) [] (order (slice_index made) numbers k) (made_at made k (length made))

pub occupied_passed : (until : List ℕ) (c stage k : ℕ) → c ≤ length until → k ≤ stage → ((d : ℕ) → d < c → k ≤ slice_index until d) → (d : ℕ) → d < c + 1 → k ≤ slice_index (occupied until c stage) d
occupied_passed until c stage k high late below d h =
    let o : IsOccupied until c stage (occupied until c stage) = is_occupied until c stage high in
    elim (cases_eq d c) [
      | inl e ↦ omega (arith, o.here, ap (slice_index (occupied until c stage)) e)
      | inr ne ↦ omega (arith, o.elsewhere d ne, below d (omega arith))
    ]

pub length-occupied : (until : List ℕ) (c stage : ℕ) → c ≤ length until → c + 1 ≤ length (occupied until c stage)
length-occupied until c stage high = let o : IsOccupied until c stage (occupied until c stage) = is_occupied until c stage high in omega (arith, o.long)

module _ (made last : List ℕ) (k : ℕ) (names0 until0 : List ℕ) where
  -- the state of a stage's beginning, with what was taken of the first n values
  abbrev pub Grows : List ℕ → List ℕ → ℕ → Type 0
  Grows names until n = (done : List Taken) → IsState (slice_index made) (slice_index last) names0 until0 done → IsState (slice_index made) (slice_index last) names until (fold (take_next (slice_index made) (slice_index last)) done (made_at made k n))

  pub grows_yes : (names until : List ℕ) (v c : ℕ) → Grows names until v → slice_index made v ≡ k → slice_index made v ≤ slice_index last v → c ≤ length until → ((d : ℕ) → d < c → k ≤ slice_index until d)
      → (c < length until → slice_index until c < k) → v < length names → Grows (set names v c) (occupied until c (slice_index last v)) (v + 1)
  grows_yes names until v c g is short high below free low done start =
      let taken' : List Taken = fold (take_next (slice_index made) (slice_index last)) done (made_at made k v) in
      let next : IsState (slice_index made) (slice_index last) (set names v c) (occupied until c (slice_index last v)) (take_next (slice_index made) (slice_index last) taken' v) =
      state_next (slice_index made) (slice_index last) names until taken' v c (g done start) short high (λ d h. omega (arith, is, below d h)) (λ h. omega (arith, is, free h)) low in
      subst (λ vs. IsState (slice_index made) (slice_index last) (set names v c) (occupied until c (slice_index last v)) vs)
      (sym (ap (λ vs. fold (take_next (slice_index made) (slice_index last)) done vs) (made_at_yes made k v is) ∙ fold-append (take_next (slice_index made) (slice_index last)) done (made_at made k v) (v ∷ [])))
      next

  pub grows_no : (names until : List ℕ) (v : ℕ) → Grows names until v → slice_index made v ≢ k → Grows names until (v + 1)
  grows_no names until v g ne done start =
      subst (λ vs. IsState (slice_index made) (slice_index last) names until (fold (take_next (slice_index made) (slice_index last)) done vs)) (sym (made_at_no made k v ne)) (g done start)

-- a slice that was written as a whole
pub over_all : (new old : List ℕ) (n : ℕ) → length new ≡ length old → n ≡ length old → take n (new ++ drop (length new) old) ≡ new
over_all new old n same long =
    let none : drop (length new) old ≡ [] = drop_of_length-le old (omega arith) in
    ap (λ z. take n (new ++ z)) none ∙ ap (λ z. take n z) (append-nil new) ∙ take_all n new (omega arith)

-- two lists of one length that agree at each place
pub names_map : (f : ℕ → ℕ) (xs : List ℕ) (a : ℕ) → ((i : ℕ) → i < length xs → slice_index xs i ≡ f (a + i)) → xs ≡ map f (range_with_len a (length xs))
names_map f [] a h = refl
names_map f (x ∷ xs) a h =
    let here : x ≡ f a = let z : a + 0 ≡ a = omega arith in h 0 (omega arith) ∙ ap f z in
    let rest : xs ≡ map f (range_with_len (a + 1) (length xs)) = names_map f xs (a + 1) (λ i l. let e : a + suc i ≡ (a + 1) + i = omega arith in h (suc i) (omega arith) ∙ ap f e) in
    ap (λ z. z ∷ xs) here ∙ ap (λ z. f a ∷ z) rest
