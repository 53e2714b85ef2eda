-- A cycle of a machine with nothing in flight, and the number of packets that are.
use Rattle.std.proofs.Common.{◌≡◌, ℕ, zero, suc, ◌+◌, ◌<◌, ◌≤◌, Bool, true, false, Some, None, List, [], ◌∷◌, length, take, drop, replicate, set, get_or, refl, ap, arith}
use Rattle.std.specs.List.{AllByRecursion as Every}
use Rattle.dom_words.specs.State.{Hash}
use Rattle.pipeline_law.specs.Stage.{results}
use Rattle.banzai_config.specs.Action.{Arrays, Entry, Write, acts, store}
use Rattle.banzai_config.specs.Parts.{StageForm}
use Rattle.banzai_machine.specs.Kept.{one_if, set_flags}
use Rattle.banzai_machine.specs.Pipe.{clocked, cycle_writes}
use Rattle.banzai_machine.specs.Ring.{places, ring}
use Rattle.banzai_machine.specs.Touches.{touches_from}
use Rattle.banzai_machine.proofs.Every.{Every-append}

abbrev pub AreIdle : List Entry → Type 0
AreIdle rs = Every (λ r. r ≡ None) rs

every_taken : (n : ℕ) (rs : List Entry) → AreIdle rs → AreIdle (take n rs)
every_taken zero rs p = tt
every_taken (suc n) [] p = tt
every_taken (suc n) (r ∷ rs) p = (p.0, every_taken n rs p.1)

every_left : (n : ℕ) (rs : List Entry) → AreIdle rs → AreIdle (drop n rs)
every_left zero rs p = p
every_left (suc n) [] p = tt
every_left (suc n) (r ∷ rs) p = every_left n rs p.1

idle_places : (w : ℕ) (flags : List Bool) (words : List ℕ) → set_flags flags ≡ 0 → AreIdle (places w flags words)
idle_places w [] words e = tt
idle_places w (true ∷ flags) words e = absurd (omega (arith, e))
idle_places w (false ∷ flags) words e = (refl, idle_places w flags (drop w words) (omega (arith, e)))

idle_ring : (w p : ℕ) (flags : List Bool) (words : List ℕ) → set_flags flags ≡ 0 → AreIdle (ring w p flags words)
idle_ring w p flags words e =
    let all : AreIdle (places w flags words) = idle_places w flags words e in
    Every-append (λ r. r ≡ None) (drop p (places w flags words)) (take p (places w flags words)) (every_left p (places w flags words) all) (every_taken p (places w flags words) all)

idle_writes : (ss : List StageForm) (rs : List Entry) (arrays : Arrays) → AreIdle rs → cycle_writes ss rs arrays ≡ []
idle_writes [] rs arrays p = refl
idle_writes (s ∷ ss) [] arrays p = refl
idle_writes (s ∷ ss) (None ∷ rs) arrays p = idle_writes ss rs arrays p.1
idle_writes (s ∷ ss) (Some r ∷ rs) arrays p = absurd (not_none r p.0)
  where
    not_none : (r : List ℕ) → Some r ≡ None → ⊥
    not_none r e = cc

idle_touches : (n : ℕ) (ss : List StageForm) (rs : List Entry) (arrays : Arrays) → AreIdle rs → touches_from n ss rs arrays ≡ []
idle_touches n [] rs arrays p = refl
idle_touches n (s ∷ ss) [] arrays p = refl
idle_touches n (s ∷ ss) (None ∷ rs) arrays p = idle_touches (suc n) ss rs arrays p.1
idle_touches n (s ∷ ss) (Some r ∷ rs) arrays p = absurd (not_none r p.0)
  where
    not_none : (r : List ℕ) → Some r ≡ None → ⊥
    not_none r e = cc

idle_results : (hash : Hash) (ss : List StageForm) (rs : List Entry) (arrays : Arrays) → AreIdle rs → length rs ≡ length ss → results (acts hash) ss rs arrays ≡ rs
idle_results hash [] [] arrays p e = refl
idle_results hash [] (r ∷ rs) arrays p e = absurd (omega (arith, e))
idle_results hash (s ∷ ss) [] arrays p e = refl
idle_results hash (s ∷ ss) (None ∷ rs) arrays p e =
    let same : length rs ≡ length ss = omega (arith, e) in
    ap (λ (z : List Entry). None ∷ z) (idle_results hash ss rs arrays p.1 same)
idle_results hash (s ∷ ss) (Some r ∷ rs) arrays p e = absurd (not_none r p.0)
  where
    not_none : (r : List ℕ) → Some r ≡ None → ⊥
    not_none r e = cc

module _ (ss : List StageForm) (w p : ℕ) (flags : List Bool) (words : List ℕ) (arrays : Arrays) (none : set_flags flags ≡ 0) where
  pub nothing_stored : clocked ss (ring w p flags words) arrays ≡ arrays
  nothing_stored = ap (λ (ws : List Write). store ws arrays) (idle_writes ss (ring w p flags words) arrays (idle_ring w p flags words none))

  pub nothing_touched : (n : ℕ) → touches_from n ss (ring w p flags words) arrays ≡ []
  nothing_touched n = idle_touches n ss (ring w p flags words) arrays (idle_ring w p flags words none)

  pub nothing_passed : (hash : Hash) → length (ring w p flags words) ≡ length ss → results (acts hash) ss (ring w p flags words) arrays ≡ ring w p flags words
  nothing_passed hash same = idle_results hash ss (ring w p flags words) arrays (idle_ring w p flags words none) same

pub set_one : (flags : List Bool) (k : ℕ) (b d : Bool) → k < length flags → set_flags (set flags k b) + one_if (get_or flags k d) ≡ set_flags flags + one_if b
set_one [] k b d h = absurd (omega arith)
set_one (a ∷ flags) zero b d h = omega arith
set_one (a ∷ flags) (suc k) b d h =
    let less : k < length flags = omega arith in
    omega (arith, set_one flags k b d less)

pub one_set : (flags : List Bool) (k : ℕ) (d : Bool) → k < length flags → one_if (get_or flags k d) ≤ set_flags flags
one_set [] k d h = absurd (omega arith)
one_set (a ∷ flags) zero d h = omega arith
one_set (a ∷ flags) (suc k) d h =
    let less : k < length flags = omega arith in
    omega (arith, one_set flags k d less)

pub few_set : (flags : List Bool) → set_flags flags ≤ length flags
few_set [] = omega arith
few_set (true ∷ flags) = omega (arith, few_set flags)
few_set (false ∷ flags) = omega (arith, few_set flags)

pub none_set : (n : ℕ) → set_flags (replicate n false) ≡ 0
none_set zero = refl
none_set (suc n) = omega (arith, none_set n)
