-- Facts on each element, by recursion on the list.
use Rattle.std.proofs.Common.{◌≡◌, ℕ, List, [], ◌∷◌, ◌++◌, map, refl, ◌≢◌}
use Rattle.std.specs.List.{flat_map, AllByRecursion as Every}
use Rattle.container_plan.specs.Facts.{AreDistinct}

module _ {X : Type 0} where
  pub Every-append : (P : X → Type 0) (xs ys : List X) → Every P xs → Every P ys → Every P (xs ++ ys)
  Every-append P [] ys p q = q
  Every-append P (x ∷ xs) ys p q = (p.0, Every-append P xs ys p.1 q)

  pub Every-left : (P : X → Type 0) (xs ys : List X) → Every P (xs ++ ys) → Every P xs
  Every-left P [] ys p = tt
  Every-left P (x ∷ xs) ys p = (p.0, Every-left P xs ys p.1)

  pub Every-right : (P : X → Type 0) (xs ys : List X) → Every P (xs ++ ys) → Every P ys
  Every-right P [] ys p = p
  Every-right P (x ∷ xs) ys p = Every-right P xs ys p.1

  pub Every-weaker : (P Q : X → Type 0) → ((x : X) → P x → Q x) → (xs : List X) → Every P xs → Every Q xs
  Every-weaker P Q f [] p = tt
  Every-weaker P Q f (x ∷ xs) p = (f x p.0, Every-weaker P Q f xs p.1)

  pub Every-always : (P : X → Type 0) → ((x : X) → P x) → (xs : List X) → Every P xs
  Every-always P f [] = tt
  Every-always P f (x ∷ xs) = (f x, Every-always P f xs)

  -- where each x has each y, each y has each x
  pub Every-swap : {Y : Type 0} (R : X → Y → Type 0) (xs : List X) (ys : List Y) → Every (λ x. Every (R x) ys) xs → Every (λ y. Every (λ x. R x y) xs) ys
  Every-swap R xs [] p = tt
  Every-swap R xs (y ∷ ys) p = (
    Every-weaker (λ x. Every (R x) (y ∷ ys)) (λ x. R x y) (λ x h. h.0) xs p,
    Every-swap R xs ys (Every-weaker (λ x. Every (R x) (y ∷ ys)) (λ x. Every (R x) ys) (λ x h. h.1) xs p),
  )

  pub map_same : {Y : Type 0} (f g : X → Y) (xs : List X) → Every (λ x. f x ≡ g x) xs → map f xs ≡ map g xs
  map_same f g [] p = refl
  map_same f g (x ∷ xs) p =
      let rest : map f xs ≡ map g xs = map_same f g xs p.1 in
      cc (p.0, rest)

  pub same_map : {Y : Type 0} (f g : X → Y) (xs : List X) → map f xs ≡ map g xs → Every (λ x. f x ≡ g x) xs
  same_map f g [] p = tt
  same_map f g (x ∷ xs) p =
      let head : f x ≡ g x = cc in
      let tail : map f xs ≡ map g xs = cc in
      (head, same_map f g xs tail)

module _ {X : Type 0} where
  pub Every-zip : (P Q : X → Type 0) (xs : List X) → Every P xs → Every Q xs → Every (λ x. P x × Q x) xs
  Every-zip P Q [] p q = tt
  Every-zip P Q (x ∷ xs) p q = ((p.0, q.0), Every-zip P Q xs p.1 q.1)

  pub Every-zip3 : (P Q R : X → Type 0) (xs : List X) → Every P xs → Every Q xs → Every R xs → Every (λ x. P x × Q x × R x) xs
  Every-zip3 P Q R [] p q r = tt
  Every-zip3 P Q R (x ∷ xs) p q r = ((p.0, q.0, r.0), Every-zip3 P Q R xs p.1 q.1 r.1)

module _ {X Y : Type 0} where
  pub Every-flat : (P : Y → Type 0) (f : X → List Y) (xs : List X) → Every P (flat_map f xs) → Every (λ x. Every P (f x)) xs
  Every-flat P f [] p = tt
  Every-flat P f (x ∷ xs) p = (Every-left P (f x) (flat_map f xs) p, Every-flat P f xs (Every-right P (f x) (flat_map f xs) p))

  pub Every-from_flat : (P : Y → Type 0) (f : X → List Y) (xs : List X) → Every (λ x. Every P (f x)) xs → Every P (flat_map f xs)
  Every-from_flat P f [] p = tt
  Every-from_flat P f (x ∷ xs) p = Every-append P (f x) (flat_map f xs) p.0 (Every-from_flat P f xs p.1)

-- a list of two parts without repetition: no element of one is in the other
pub distinct_left : (xs ys : List ℕ) → AreDistinct (xs ++ ys) → Every (λ x. Every (λ y. x ≢ y) ys) xs
distinct_left [] ys p = tt
distinct_left (x ∷ xs) ys p = (Every-right (λ y. x ≢ y) xs ys p.0, distinct_left xs ys p.1)

pub distinct_right : (xs ys : List ℕ) → AreDistinct (xs ++ ys) → AreDistinct ys
distinct_right [] ys p = p
distinct_right (x ∷ xs) ys p = distinct_right xs ys p.1

pub distinct_first : (xs ys : List ℕ) → AreDistinct (xs ++ ys) → AreDistinct xs
distinct_first [] ys p = tt
distinct_first (x ∷ xs) ys p = (Every-left (λ y. x ≢ y) xs ys p.0, distinct_first xs ys p.1)
