-- Each array is owned by one stage or left alone, and so is their number.
use Rattle.std.proofs.Common.{◌≡◌, ◌⊎◌, inl, inr, ℕ, zero, suc, Some, None, List, [], ◌∷◌, length, slice_get, refl, ap, ◌≢◌}
use Rattle.std.proofs.lemmas.Bool.{cases_eq}
use Rattle.std.proofs.lemmas.List.{ext_get_or}
use Rattle.std.specs.List.{AllByRecursion as Every}
use Rattle.dom_words.specs.State.{Hash, array_of}
use Rattle.pipeline_law.specs.Serial.{IsLeftAlone, IsShared, Owns}
use Rattle.banzai_config.specs.Action.{Arrays, Entry, Write, acts, stage_writes}
use Rattle.banzai_config.specs.Named.{stage_arrays}
use Rattle.banzai_config.specs.Parts.{PartsForm, StageForm}
use Rattle.banzai_machine.specs.Pipe.{cycle_writes, pipeline, writes_before}
use Rattle.banzai_machine.proofs.Every.{Every-always, Every-append, Every-weaker, every_at}
use Rattle.banzai_machine.proofs.Store.{length-store, store-other, stage_writes-arrays}
use Rattle.banzai_machine.proofs.Apart.{own-agree}

-- the number of arrays, and each array
abbrev pub views : ℕ → Arrays → List ℕ
views zero arrays = length arrays ∷ []
views (suc k) arrays = array_of arrays k

views_are_all : (a b : Arrays) → ((i : ℕ) → views i a ≡ views i b) → a ≡ b
views_are_all a b same =
    let ends : views 0 a ≡ views 0 b = same 0 in
    let size : length a ≡ length b = cc in
    ext_get_or [] a b size (λ k few. same (suc k))

-- a number is at a place of a list, or none of its items is that number
find_in : (ks : List ℕ) (k : ℕ) → ((i : ℕ) × (slice_get ks i ≡ Some k)) ⊎ Every (λ j. j ≢ k) ks
find_in [] k = inr tt
find_in (j ∷ ks) k = step (cases_eq j k) (find_in ks k)
  where
    step : (j ≡ k) ⊎ (j ≢ k) → ((i : ℕ) × (slice_get ks i ≡ Some k)) ⊎ Every (λ j. j ≢ k) ks → ((i : ℕ) × (slice_get (j ∷ ks) i ≡ Some k)) ⊎ Every (λ j. j ≢ k) (j ∷ ks)
    step (inl is) rest = inl (0, ap Some is)
    step (inr ne) (inl (i, at)) = inl (suc i, at)
    step (inr ne) (inr others) = inr (ne, others)

abbrev pub Holder : List StageForm → ℕ → Type 0
Holder stages k = (j : ℕ) × (s : StageForm) × (slice_get stages j ≡ Some s) × (i : ℕ) × (slice_get (stage_arrays s) i ≡ Some k)

-- a stage holds the array, or none does
find_holder : (stages : List StageForm) (k : ℕ) → Holder stages k ⊎ Every (λ s. Every (λ j. j ≢ k) (stage_arrays s)) stages
find_holder [] k = inr tt
find_holder (s ∷ stages) k = step (find_in (stage_arrays s) k) (find_holder stages k)
  where
    step : ((i : ℕ) × (slice_get (stage_arrays s) i ≡ Some k)) ⊎ Every (λ j. j ≢ k) (stage_arrays s) → Holder stages k ⊎ Every (λ t. Every (λ j. j ≢ k) (stage_arrays t)) stages
        → Holder (s ∷ stages) k ⊎ Every (λ t. Every (λ j. j ≢ k) (stage_arrays t)) (s ∷ stages)
    step (inl (i, at)) rest = inl (0, s, refl, i, at)
    step (inr others) (inl (j, t, is, i, at)) = inl (suc j, t, is, i, at)
    step (inr others) (inr none) = inr (others, none)

module _ (hash : Hash) where
  length-acts : (s : StageForm) (arrays : Arrays) (register : Entry) → length (acts hash s arrays register).0 ≡ length arrays
  length-acts s arrays None = refl
  length-acts s arrays (Some words) = length-store (stage_writes s arrays words) arrays

  other-acts : (s : StageForm) (k : ℕ) → Every (λ j. j ≢ k) (stage_arrays s) → (arrays : Arrays) (register : Entry) → array_of (acts hash s arrays register).0 k ≡ array_of arrays k
  other-acts s k p arrays None = refl
  other-acts s k p arrays (Some words) = store-other (stage_writes s arrays words) arrays k (stage_writes-arrays s arrays words k p)

other-before : (s : StageForm) (arrays : Arrays) (register : Entry) (k : ℕ) → Every (λ j. j ≢ k) (stage_arrays s) → Every (λ (w : Write). w.array ≢ k) (writes_before s arrays register)
other-before s arrays None k p = tt
other-before s arrays (Some words) k p = stage_writes-arrays s arrays words k p

pub other-cycle : (ss : List StageForm) (registers : List Entry) (arrays : Arrays) (k : ℕ) → Every (λ s. Every (λ j. j ≢ k) (stage_arrays s)) ss
    → Every (λ (w : Write). w.array ≢ k) (cycle_writes ss registers arrays)
other-cycle [] registers arrays k p = tt
other-cycle (s ∷ ss) [] arrays k p = tt
other-cycle (s ∷ ss) (register ∷ registers) arrays k p =
    Every-append (λ (w : Write). w.array ≢ k) (writes_before s arrays register) (cycle_writes ss registers arrays)
    (other-before s arrays register k p.0) (other-cycle ss registers arrays k p.1)

module _ (hash : Hash) (p : PartsForm) where
  owner : (i : ℕ) → ((k : ℕ) × (s : StageForm) × (slice_get p.stages k ≡ Some s) × Owns (pipeline hash p) s (views i)) ⊎ IsLeftAlone (pipeline hash p) (views i)
  owner zero = inr (record {
    by_stages = Every-always (λ s. (a : Arrays) (x : Entry) → views 0 (acts hash s a x).0 ≡ views 0 a) (λ s a x. ap (λ (n : ℕ). n ∷ []) (length-acts hash s a x)) p.stages;
    by_clock = λ registers a. ap (λ (n : ℕ). n ∷ []) (length-store (cycle_writes p.stages registers a) a);
  })
  owner (suc k) = held (find_holder p.stages k)
    where
      held : Holder p.stages k ⊎ Every (λ s. Every (λ j. j ≢ k) (stage_arrays s)) p.stages
          → ((j : ℕ) × (s : StageForm) × (slice_get p.stages j ≡ Some s) × Owns (pipeline hash p) s (views (suc k))) ⊎ IsLeftAlone (pipeline hash p) (views (suc k))
      held (inl (j, s, is, i, at)) = inl (j, s, is, λ a b same. every_at (λ m. array_of a m ≡ array_of b m) (stage_arrays s) i k (own-agree hash s a b same) at)
      held (inr none) = inr (record {
        by_stages = Every-weaker (λ s. Every (λ j. j ≢ k) (stage_arrays s)) (λ s. (a : Arrays) (x : Entry) → array_of (acts hash s a x).0 k ≡ array_of a k) (λ s others. other-acts hash s k others) p.stages none;
        by_clock = λ registers a. store-other (cycle_writes p.stages registers a) a k (other-cycle p.stages registers a k none);
      })

  pub arrays_shared : IsShared (pipeline hash p) views
  arrays_shared = record { whole = views_are_all; owners = owner }
