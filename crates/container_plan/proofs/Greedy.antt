-- Values that take containers in turn: those that are live at one stage have different containers, and there are no more containers than such values.
use Rattle.std.proofs.Common.{◌≡◌, ℕ, ◌≤◌, ◌≢◌, ◌⊎◌, inl, inr, Bool, true, false, nat_eq, nat_le, List, [], ◌∷◌, map, filter, fold, refl, sym, ap, ◌∙◌, subst, arith, if◌then◌else◌}
use Rattle.std.proofs.lemmas.Bool.{eq-eqb, eqb-true, le-leb}
use Rattle.std.specs.List.{AllByRecursion as Every}
use Rattle.container_plan.specs.Facts.{IsIn}
use Rattle.container_plan.specs.Spans.{Taken, container_in, least_free, held, take_next, taken}
use Rattle.container_plan.proofs.Least.{least_free_is}

-- the value of a container that was taken
abbrev pub value_of : Taken → ℕ
value_of t = t.value

pub found_at : (P : ℕ → ℕ → Type 0) (done : List Taken) (v : ℕ) → IsIn v (map value_of done) → Every (λ (t : Taken). P t.value t.container) done → P v (container_in done v)
found_at P [] v i p = absurd i
found_at P (t ∷ ts) v i p = by_case (nat_eq t.value v) refl i (λ j. found_at P ts v j p.1)
  where
    by_case : (b : Bool) → nat_eq t.value v ≡ b → IsIn v (map value_of (t ∷ ts)) → (IsIn v (map value_of ts) → P v (container_in ts v)) → P v (if b then t.container else container_in ts v)
    by_case true e j rest = subst (λ z. P z t.container) (eqb-true t.value v e) p.0
    by_case false e (inl is) rest = absurd (let h : nat_eq t.value v ≡ true = eq-eqb t.value v (sym is) in cc)
    by_case false e (inr j) rest = rest j

module _ (made last : ℕ → ℕ) where
  -- each value has another container than those that were taken before it and are still live where it is made
  abbrev pub AreApart : List Taken → Type 0
  AreApart [] = Unit {0}
  AreApart (t ∷ ts) = Every (λ (u : Taken). made t.value ≤ last u.value → u.container ≢ t.container) ts × AreApart ts

  -- a container of a value that is still live is held
  pub is_held : (k : ℕ) (c : ℕ) (done : List Taken) → (IsIn c (held made last k done) → ⊥) → Every (λ (u : Taken). k ≤ last u.value → u.container ≢ c) done
  is_held k c [] free = tt
  is_held k c (t ∷ ts) free = by_case (nat_le k (last t.value)) refl free (is_held k c ts)
    where
      by_case : (b : Bool) → nat_le k (last t.value) ≡ b → (IsIn c (map (λ (u : Taken). u.container) (if b then t ∷ filter (λ (u : Taken). nat_le k (last u.value)) ts else filter (λ (u : Taken). nat_le k (last u.value)) ts)) → ⊥)
          → ((IsIn c (held made last k ts) → ⊥) → Every (λ (u : Taken). k ≤ last u.value → u.container ≢ c) ts)
          → Every (λ (u : Taken). k ≤ last u.value → u.container ≢ c) (t ∷ ts)
      by_case true e none rest = (λ h is. none (inl (sym is)), rest (λ i. none (inr i)))
      by_case false e none rest = (λ h is. let g : nat_le k (last t.value) ≡ true = le-leb k (last t.value) h in absurd (cc), rest none)

  apart_next : (done : List Taken) (v : ℕ) → AreApart done → AreApart (take_next made last done v)
  apart_next done v p = (is_held (made v) (least_free (held made last (made v) done)) done (least_free_is (held made last (made v) done)).free, p)

  apart_fold : (vs : List ℕ) (done : List Taken) → AreApart done → AreApart (fold (take_next made last) done vs)
  apart_fold [] done p = p
  apart_fold (v ∷ vs) done p = apart_fold vs (take_next made last done v) (apart_next done v p)

  -- all values have been taken
  in_fold : (vs : List ℕ) (done : List Taken) (v : ℕ) → IsIn v vs ⊎ IsIn v (map value_of done) → IsIn v (map value_of (fold (take_next made last) done vs))
  in_fold [] done v (inl i) = absurd i
  in_fold [] done v (inr i) = i
  in_fold (u ∷ vs) done v (inl (inl is)) = in_fold vs (take_next made last done u) v (inr (inl is))
  in_fold (u ∷ vs) done v (inl (inr i)) = in_fold vs (take_next made last done u) v (inl i)
  in_fold (u ∷ vs) done v (inr i) = in_fold vs (take_next made last done u) v (inr (inr i))

  pub taken_apart : (vs : List ℕ) → AreApart (taken made last vs)
  taken_apart vs = apart_fold vs [] tt

  pub taken_all : (vs : List ℕ) (v : ℕ) → IsIn v vs → IsIn v (map value_of (taken made last vs))
  taken_all vs v i = in_fold vs [] v (inl i)

  -- two values that are live at one stage have different containers
  pub live_apart : (done : List Taken) (k u v : ℕ) → AreApart done → IsIn u (map value_of done) → IsIn v (map value_of done) → u ≢ v
      → made u ≤ k → k ≤ last u → made v ≤ k → k ≤ last v → container_in done u ≢ container_in done v
  live_apart [] k u v p i j ne mu lu mv lv = absurd i
  live_apart (t ∷ ts) k u v p i j ne mu lu mv lv =
      by_case (nat_eq t.value u) (nat_eq t.value v) refl refl i j (λ a b. live_apart ts k u v p.1 a b ne mu lu mv lv)
      (λ is a. found_at (λ w c. made t.value ≤ last w → c ≢ t.container) ts v a p.0 (let h : made t.value ≡ made u = ap made is in omega arith))
      (λ is a. found_at (λ w c. made t.value ≤ last w → c ≢ t.container) ts u a p.0 (let h : made t.value ≡ made v = ap made is in omega arith))
    where
      other : (w : ℕ) → nat_eq t.value w ≡ false → IsIn w (map value_of (t ∷ ts)) → IsIn w (map value_of ts)
      other w e (inl is) = absurd (let h : nat_eq t.value w ≡ true = eq-eqb t.value w (sym is) in cc)
      other w e (inr j) = j

      by_case : (a b : Bool) → nat_eq t.value u ≡ a → nat_eq t.value v ≡ b → IsIn u (map value_of (t ∷ ts)) → IsIn v (map value_of (t ∷ ts))
          → (IsIn u (map value_of ts) → IsIn v (map value_of ts) → container_in ts u ≢ container_in ts v)
          → (t.value ≡ u → IsIn v (map value_of ts) → container_in ts v ≢ t.container)
          → (t.value ≡ v → IsIn u (map value_of ts) → container_in ts u ≢ t.container)
          → (if a then t.container else container_in ts u) ≢ (if b then t.container else container_in ts v)
      by_case true true d e i j rest one two = absurd (ne (sym (eqb-true t.value u d) ∙ eqb-true t.value v e))
      by_case true false d e i j rest one two = λ is. one (eqb-true t.value u d) (other v e j) (sym is)
      by_case false true d e i j rest one two = two (eqb-true t.value v e) (other u d i)
      by_case false false d e i j rest one two = rest (other u d i) (other v e j)
