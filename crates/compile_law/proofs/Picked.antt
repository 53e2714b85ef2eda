-- Items picked by tests, and the arrays that they own.
use Rattle.std.proofs.Common.{◌≡◌, ℕ, Bool, true, false, List, [], ◌∷◌, ◌++◌, map, refl, sym, ap, ◌∙◌, ◌≢◌, cond, append_assoc}
use Rattle.std.specs.List.{filter, flat_map, AllByRecursion as Every}
use Rattle.codelets.specs.Lists.{AreDistinct}
use Rattle.compile_law.proofs.Every.{Every-append, Every-left, Every-right, Every-weaker, Every-swap, distinct_left, distinct_right, distinct_first}

module _ {X : Type 0} where
  pub picked_every : (P : X → Type 0) (t : X → Bool) (xs : List X) → Every P xs → Every (λ x. P x × (t x ≡ true)) (filter t xs)
  picked_every P t [] p = tt
  picked_every P t (x ∷ xs) p = by_case (t x) refl (picked_every P t xs p.1)
    where
      by_case : (b : Bool) → t x ≡ b → Every (λ x. P x × (t x ≡ true)) (filter t xs) → Every (λ x. P x × (t x ≡ true)) (cond b (x ∷ filter t xs) (filter t xs))
      by_case true e rest = ((p.0, e), rest)
      by_case false e rest = rest

module _ {X Y : Type 0} (f : X → List Y) where
  pub flat-append : (xs ys : List X) → flat_map f (xs ++ ys) ≡ flat_map f xs ++ flat_map f ys
  flat-append [] ys = refl
  flat-append (x ∷ xs) ys = ap (λ z. f x ++ z) (flat-append xs ys) ∙ sym (append_assoc (f x) (flat_map f xs) (flat_map f ys))

pub flat-map : {X Y Z : Type 0} (f : Y → List Z) (g : X → Y) (xs : List X) → flat_map f (map g xs) ≡ flat_map (λ x. f (g x)) xs
flat-map f g [] = refl
flat-map f g (x ∷ xs) = ap (λ z. f (g x) ++ z) (flat-map f g xs)

pub distinct_append : (xs ys : List ℕ) → AreDistinct xs → AreDistinct ys → Every (λ x. Every (λ y. x ≢ y) ys) xs → AreDistinct (xs ++ ys)
distinct_append [] ys p q apart = q
distinct_append (x ∷ xs) ys p q apart = (Every-append (λ y. x ≢ y) xs ys p.0 apart.0, distinct_append xs ys p.1 q apart.1)

module _ {X : Type 0} (f : X → List ℕ) where
  pub picked_sub : (P : ℕ → Type 0) (t : X → Bool) (xs : List X) → Every P (flat_map f xs) → Every P (flat_map f (filter t xs))
  picked_sub P t [] p = tt
  picked_sub P t (x ∷ xs) p = by_case (t x) (picked_sub P t xs (Every-right P (f x) (flat_map f xs) p))
    where
      by_case : (b : Bool) → Every P (flat_map f (filter t xs)) → Every P (flat_map f (cond b (x ∷ filter t xs) (filter t xs)))
      by_case true rest = Every-append P (f x) (flat_map f (filter t xs)) (Every-left P (f x) (flat_map f xs) p) rest
      by_case false rest = rest

  pub picked_distinct : (t : X → Bool) (xs : List X) → AreDistinct (flat_map f xs) → AreDistinct (flat_map f (filter t xs))
  picked_distinct t [] d = tt
  picked_distinct t (x ∷ xs) d = by_case (t x) (picked_distinct t xs (distinct_right (f x) (flat_map f xs) d))
    where
      by_case : (b : Bool) → AreDistinct (flat_map f (filter t xs)) → AreDistinct (flat_map f (cond b (x ∷ filter t xs) (filter t xs)))
      by_case true rest =
          distinct_append (f x) (flat_map f (filter t xs)) (distinct_first (f x) (flat_map f xs) d) rest
          (Every-weaker (λ a. Every (λ b. a ≢ b) (flat_map f xs)) (λ a. Every (λ b. a ≢ b) (flat_map f (filter t xs))) (λ a h. picked_sub (λ b. a ≢ b) t xs h) (f x) (distinct_left (f x) (flat_map f xs) d))
      by_case false rest = rest

  -- items picked by tests that exclude one another own no array in common
  pub picked_apart : (t u : X → Bool) → ((x : X) → t x ≡ true → u x ≡ true → ⊥) → (xs : List X) → AreDistinct (flat_map f xs)
      → Every (λ a. Every (λ b. a ≢ b) (flat_map f (filter u xs))) (flat_map f (filter t xs))
  picked_apart t u excl [] d = tt
  picked_apart t u excl (x ∷ xs) d = by_case (t x) (u x) refl refl (picked_apart t u excl xs (distinct_right (f x) (flat_map f xs) d))
    where
      here : Every (λ a. Every (λ b. a ≢ b) (flat_map f xs)) (f x)
      here = distinct_left (f x) (flat_map f xs) d

      by_case : (b c : Bool) → t x ≡ b → u x ≡ c → Every (λ a. Every (λ b. a ≢ b) (flat_map f (filter u xs))) (flat_map f (filter t xs))
          → Every (λ a. Every (λ b. a ≢ b) (flat_map f (cond c (x ∷ filter u xs) (filter u xs)))) (flat_map f (cond b (x ∷ filter t xs) (filter t xs)))
      by_case true true p q rest = absurd (excl x p q)
      by_case true false p q rest =
          Every-append (λ a. Every (λ b. a ≢ b) (flat_map f (filter u xs))) (f x) (flat_map f (filter t xs))
          (Every-weaker (λ a. Every (λ b. a ≢ b) (flat_map f xs)) (λ a. Every (λ b. a ≢ b) (flat_map f (filter u xs))) (λ a h. picked_sub (λ b. a ≢ b) u xs h) (f x) here) rest
      by_case false true p q rest = both (flat_map f (filter t xs)) rest (picked_sub (λ b. Every (λ a. b ≢ a) (f x)) t xs (Every-weaker (λ b. Every (λ a. a ≢ b) (f x)) (λ b. Every (λ a. b ≢ a) (f x)) (λ b h. Every-weaker (λ a. a ≢ b) (λ a. b ≢ a) (λ a ne e. ne (sym e)) (f x) h) (flat_map f xs) (Every-swap (λ a b. a ≢ b) (f x) (flat_map f xs) here)))
        where
          both : (cs : List ℕ) → Every (λ a. Every (λ b. a ≢ b) (flat_map f (filter u xs))) cs → Every (λ b. Every (λ a. b ≢ a) (f x)) cs → Every (λ a. Every (λ b. a ≢ b) (f x ++ flat_map f (filter u xs))) cs
          both [] p q = tt
          both (c ∷ cs) p q = (Every-append (λ b. c ≢ b) (f x) (flat_map f (filter u xs)) q.0 p.0, both cs p.1 q.1)
      by_case false false p q rest = rest
