-- The list of names that the code gives is the function that renames.
use Rattle.std.proofs.Common.{◌≡◌, ℕ, zero, suc, ◌+◌, ◌<◌, ◌≤◌, inl, inr, Bool, true, false, nat_eq, List, [], ◌∷◌, length, map, fold, refl, sym, ap, ◌∙◌, arith, if◌then◌else◌}
use Rattle.std.specs.Prelude.{slice_index}
use Rattle.std.proofs.Math.Path.{fun_ext}
use Rattle.std.proofs.lemmas.Bool.{cases_lt, ne_eqb}
use Rattle.std.specs.List.{AllByRecursion as Every, range_with_len}
use Rattle.container_plan.specs.Spans.{Taken, container_in, number_in, take_next}
use Rattle.banzai_config.specs.Parts.{PartsForm}
use Rattle.container_plan.specs.Shared.{all_taken, container_of, depth, last, made, values}
use Rattle.container_plan.proofs.Every.{Every-append}
use Rattle.container_plan.proofs.Order.{at, from}
use Rattle.container_plan.proofs.Made.{choose_no}
use Rattle.container_plan.proofs.Plans.{below_range, past_end}

in_fold_only : (P : ℕ → Type 0) (made last : ℕ → ℕ) (vs : List ℕ) (done : List Taken) → Every P vs → Every (λ (t : Taken). P t.value) done → Every (λ (t : Taken). P t.value) (fold (take_next made last) done vs)
in_fold_only P made last [] done p q = q
in_fold_only P made last (v ∷ vs) done p q = in_fold_only P made last vs (take_next made last done v) p.1 (p.0, q)

at_only : (P : ℕ → Type 0) (made : ℕ → ℕ) (k : ℕ) (numbers : List ℕ) → Every P numbers → Every P (at made k numbers)
at_only P made k [] p = tt
at_only P made k (v ∷ numbers) p = by_bool (nat_eq (made v) k) (at_only P made k numbers p.1)
  where
    by_bool : (b : Bool) → Every P (at made k numbers) → Every P (if b then v ∷ at made k numbers else at made k numbers)
    by_bool true q = (p.0, q)
    by_bool false q = q

from_only : (P : ℕ → Type 0) (made : ℕ → ℕ) (numbers : List ℕ) (k n : ℕ) → Every P numbers → Every P (from made numbers k n)
from_only P made numbers k zero p = tt
from_only P made numbers k (suc n) p = Every-append P (at made k numbers) (from made numbers (k + 1) n) (at_only P made k numbers p) (from_only P made numbers (k + 1) n p)

untaken : (v : ℕ) (done : List Taken) → Every (λ (t : Taken). t.value < v) done → container_in done v ≡ 0
untaken v [] p = refl
untaken v (t ∷ ts) p = choose_no (nat_eq t.value v) t.container (container_in ts v) (ne_eqb t.value v (λ e. omega (arith, p.0, e))) ∙ untaken v ts p.1

map_range : (f : ℕ → ℕ) (a n i : ℕ) → i < n → slice_index (map f (range_with_len a n)) i ≡ f (a + i)
map_range f a zero i h = absurd (omega arith)
map_range f a (suc n) zero h = let e : a ≡ a + 0 = omega arith in ap f e
map_range f a (suc n) (suc i) h = let e : (a + 1) + i ≡ a + suc i = omega arith in map_range f (a + 1) n i (omega arith) ∙ ap f e

length-map_range : (f : ℕ → ℕ) (a n : ℕ) → length (map f (range_with_len a n)) ≡ n
length-map_range f a zero = refl
length-map_range f a (suc n) = ap (λ m. suc m) (length-map_range f (a + 1) n)

module _ (p : PartsForm) (names : List ℕ) (are : names ≡ map (container_of p) (range_with_len 0 p.containers)) where
  pub name_at : (v : ℕ) → slice_index names v ≡ container_of p v
  name_at v = elim (cases_lt v p.containers) [
    | inl h ↦ let e : 0 + v ≡ v = omega arith in ap (λ (xs : List ℕ). slice_index xs v) are ∙ map_range (container_of p) 0 p.containers v h ∙ ap (container_of p) e
    | inr h ↦
        let long : length names ≡ p.containers = ap (λ (xs : List ℕ). length xs) are ∙ length-map_range (container_of p) 0 p.containers in
        past_end names v (omega arith) ∙ sym (untaken v (all_taken p)
        (in_fold_only (λ u. u < v) (made p) (last p) (values p) []
        (from_only (λ u. u < v) (made p) (range_with_len 0 p.containers) 0 (suc (depth p)) (below_range (λ u. u < v) 0 p.containers (λ u l. omega arith))) tt))
  ]

  -- so parts under the names of the list are the parts with shared containers
  pub names_are : slice_index names ≡ container_of p
  names_are = fun_ext name_at

-- no container that is taken is past their number
pub container_low : (done : List Taken) (v : ℕ) → container_in done v ≤ number_in done
container_low [] v = omega arith
container_low (t ∷ done) v = by_case (nat_eq t.value v) (container_low done v)
  where
    by_case : (b : Bool) → container_in done v ≤ number_in done → (if b then t.container else container_in done v) ≤ number_in (t ∷ done)
    by_case true h = omega arith
    by_case false h = omega (arith, h)
