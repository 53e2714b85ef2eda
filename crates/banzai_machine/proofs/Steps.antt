-- One more item of a list.
use Rattle.std.proofs.Common.{◌≡◌, ℕ, zero, suc, ◌+◌, ◌<◌, ◌≤◌, length, length-append, arith, Some, List, [], ◌∷◌, ◌++◌, map, take, set, slice_get, refl, ap, ◌≢◌, append-nil}
use Rattle.std.proofs.lemmas.Grind.{flat_map-append}
use Rattle.std.proofs.lemmas.List.{map-append}
use Rattle.std.specs.List.{flat_map, AllByRecursion as Every}
use Rattle.pipeline_law.specs.Order.{runs}
use Rattle.banzai_machine.specs.Own.{AreDistinct}
use Rattle.banzai_machine.proofs.AnyOrder.{distinct_first, runs-append}
use Rattle.banzai_machine.proofs.Every.{Every-append, Every-always, Every-swap, Every-flat, distinct_left, distinct_right, every_at}

module _ {X : Type 0} where
  pub take_step : (xs : List X) (i : ℕ) (x : X) → slice_get xs i ≡ Some x → take (suc i) xs ≡ take i xs ++ x ∷ []
  take_step [] i x e = cc
  take_step (y ∷ xs) zero x e = cc
  take_step (y ∷ xs) (suc i) x e = ap (λ z. y ∷ z) (take_step xs i x e)

  pub take_set : (xs : List X) (k : ℕ) (x : X) → k < length xs → take (suc k) (set xs k x) ≡ take k xs ++ x ∷ []
  take_set [] k x n = absurd (omega arith)
  take_set (y ∷ xs) zero x n = refl
  take_set (y ∷ xs) (suc k) x n =
      let less : k < length xs = omega arith in
      ap (λ z. y ∷ z) (take_set xs k x less)

  pub take_full : (xs : List X) (n : ℕ) → length xs ≤ n → take n xs ≡ xs
  take_full [] zero h = refl
  take_full [] (suc n) h = refl
  take_full (x ∷ xs) zero h = absurd (omega arith)
  take_full (x ∷ xs) (suc n) h =
      let less : length xs ≤ n = omega arith in
      ap (λ z. x ∷ z) (take_full xs n less)

  pub runs_step : {M : Type 0} (step : X → M → M) (xs : List X) (i : ℕ) (x : X) (m : M) → slice_get xs i ≡ Some x → runs step (take (suc i) xs) m ≡ step x (runs step (take i xs) m)
  runs_step step xs i x m e = rw (take_step xs i x e, runs-append step (take i xs) (x ∷ []) m) refl

module _ {X Y : Type 0} where
  pub flat_map_step : (f : X → List Y) (xs : List X) (i : ℕ) (x : X) → slice_get xs i ≡ Some x → flat_map f (take (suc i) xs) ≡ flat_map f (take i xs) ++ f x
  flat_map_step f xs i x e = rw (take_step xs i x e, flat_map-append f (take i xs) (x ∷ []), append-nil (f x)) refl

  pub map_step : (f : X → Y) (xs : List X) (i : ℕ) (x : X) → slice_get xs i ≡ Some x → map f (take (suc i) xs) ≡ map f (take i xs) ++ f x ∷ []
  map_step f xs i x e = rw (take_step xs i x e) (map-append f (take i xs) (x ∷ []))

  pub runs_map_step : {M : Type 0} (step : Y → M → M) (f : X → Y) (xs : List X) (i : ℕ) (x : X) (m : M) → slice_get xs i ≡ Some x
      → runs step (map f (take (suc i) xs)) m ≡ step (f x) (runs step (map f (take i xs)) m)
  runs_map_step step f xs i x m e = rw (map_step f xs i x e, runs-append step (map f (take i xs)) (f x ∷ []) m) refl

  pub map_at : (f : X → Y) (xs : List X) (i : ℕ) (x : X) → slice_get xs i ≡ Some x → slice_get (map f xs) i ≡ Some (f x)
  map_at f [] i x e = cc
  map_at f (y ∷ xs) zero x e = cc
  map_at f (y ∷ xs) (suc i) x e = map_at f xs i x e

-- what an item adds fits beside what those before it add
pub room_at : {X Y : Type 0} (f : X → List Y) (xs : List X) (i : ℕ) (x : X) → slice_get xs i ≡ Some x → length (flat_map f (take i xs)) + length (f x) ≤ length (flat_map f xs)
room_at f [] i x e = cc
room_at f (y ∷ xs) zero x e =
    let is : y ≡ x = cc in
    rw (← is) (omega (arith, length-append (f y) (flat_map f xs)))
room_at f (y ∷ xs) (suc i) x e =
    omega (arith, length-append (f y) (flat_map f xs), length-append (f y) (flat_map f (take i xs)), room_at f xs i x e)

module _ {X : Type 0} (numbers : X → List ℕ) where
  -- the numbers of an item are in none of the items before it
  pub distinct_at : (xs : List X) (i : ℕ) (x : X) → AreDistinct (flat_map numbers xs) → slice_get xs i ≡ Some x
      → Every (λ k. Every (λ j. j ≢ k) (flat_map numbers (take i xs))) (numbers x)
  distinct_at [] i x p e = Every-always (λ k. Every (λ j. j ≢ k) (flat_map numbers (take i []))) (λ k. nothing i k) (numbers x)
    where
      nothing : (i k : ℕ) → Every (λ j. j ≢ k) (flat_map numbers (take i []))
      nothing zero k = tt
      nothing (suc i) k = tt
  distinct_at (y ∷ xs) zero x p e = Every-always (λ k. Every (λ j. j ≢ k) []) (λ k. tt) (numbers x)
  distinct_at (y ∷ xs) (suc i) x p e =
      both (numbers x)
      (every_at (λ z. Every (λ k. Every (λ j. j ≢ k) (numbers y)) (numbers z)) xs i x
      (Every-flat (λ k. Every (λ j. j ≢ k) (numbers y)) numbers xs (Every-swap (λ j k. j ≢ k) (numbers y) (flat_map numbers xs) (distinct_left (numbers y) (flat_map numbers xs) p))) e)
      (distinct_at xs i x (distinct_right (numbers y) (flat_map numbers xs) p) e)
    where
      both : (ks : List ℕ) → Every (λ k. Every (λ j. j ≢ k) (numbers y)) ks → Every (λ k. Every (λ j. j ≢ k) (flat_map numbers (take i xs))) ks
          → Every (λ k. Every (λ j. j ≢ k) (numbers y ++ flat_map numbers (take i xs))) ks
      both [] q r = tt
      both (k ∷ ks) q r = (Every-append (λ j. j ≢ k) (numbers y) (flat_map numbers (take i xs)) q.0 r.0, both ks q.1 r.1)

  -- the numbers of one item are distinct
  pub distinct_part : (xs : List X) (k : ℕ) (x : X) → AreDistinct (flat_map numbers xs) → slice_get xs k ≡ Some x → AreDistinct (numbers x)
  distinct_part [] k x p e = cc
  distinct_part (y ∷ xs) zero x p e =
      let is : y ≡ x = cc in
      rw (← is) (distinct_first (numbers y) (flat_map numbers xs) p)
  distinct_part (y ∷ xs) (suc k) x p e = distinct_part xs k x (distinct_right (numbers y) (flat_map numbers xs) p) e
