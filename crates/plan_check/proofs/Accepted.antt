-- A plan by hand without a fault is a plan.
use Rattle.std.proofs.Common.{◌≡◌, ℕ, zero, suc, ◌+◌, ◌≤◌, ◌<◌, ◌^◌, ◌⊎◌, inl, inr, Bool, true, false, cond, ◌&&◌, ◌==◌, nat_le, nat_lt, if◌then◌else◌, List, [], ◌∷◌, length, count_by, get_or, slice_get, find, Option, Some, None, option_map, refl, sym, ap, ◌∙◌, subst, arith}
use Rattle.std.specs.List.{All, AllByRecursion}
use Rattle.std.proofs.lemmas.Bool.{eqb-true, le-leb, leb-false, le-ltb, lt-leb, ltb-false, cases_lt}
use Rattle.std.proofs.lemmas.List.Sums.{sum_by-cons}
use Rattle.codelets.specs.declared.codelet.Codelet.{Codelet}
use Rattle.codelets.specs.declared.codelet.Kind.{Kind}
use Rattle.codelets.specs.declared.codelet.Kind.TheVariants.{Stateful, Stateless}
use Rattle.codelets.specs.Leveled.{AreLeveled}
use Rattle.codelets.specs.Lists.{IsIn, option_or}
use Rattle.stage_plan.specs.declared.place.Place.{Place}
use Rattle.stage_plan.specs.Schedule.{IsPlan, atoms_at, is_kind, stage_at, stages_of, stands_at, width}
use Rattle.plan_check.specs.declared.fault.HandFault.{HandFault}
use Rattle.plan_check.specs.declared.fault.HandFault.TheVariants.{Early, Wide}
use Rattle.plan_check.specs.HandFaults.{early_if, first_early, first_late, first_wide, hand_fault, number_at, wide_at, wide_if}
use Rattle.plan_check.specs.PlanText.{IsHandPlan, IsStageOf}
use Rattle.plan_check.proofs.Firsts.{all_none, none_at, none_of}

-- Parts of an option.

none_parts : {X : Type 0} (a b : Option X) → option_or a b ≡ None → (a ≡ None) × (b ≡ None)
none_parts None b e = (refl, e)
none_parts (Some x) b e = absurd (cc)

none_from : {X : Type 0} (a b : Option X) → a ≡ None → b ≡ None → option_or a b ≡ None
none_from a b e f = ap (λ o. option_or o b) e ∙ f

none_mapped : {X Y : Type 0} (g : X → Y) (o : Option X) → option_map g o ≡ None → o ≡ None
none_mapped g None e = refl
none_mapped g (Some x) e = absurd (cc)

-- None of a list passes a test.

module _ (p : ℕ → Bool) where
  none_found : (us : List ℕ) (u : ℕ) → find p us ≡ None → IsIn u us → p u ≡ false
  none_found [] u e i = absurd i
  none_found (v ∷ us) u e i = by_test (none_found us u) (p v) refl e i
    where
      by_test : (find p us ≡ None → IsIn u us → p u ≡ false) → (t : Bool) → p v ≡ t → cond t (Some v) (find p us) ≡ None → (u ≡ v) ⊎ IsIn u us → p u ≡ false
      by_test more true t e i = absurd (cc)
      by_test more false t e (inl is) = ap p is ∙ t
      by_test more false t e (inr j) = more e j

  find_none : (us : List ℕ) → ((u : ℕ) → IsIn u us → p u ≡ false) → find p us ≡ None
  find_none [] h = refl
  find_none (v ∷ us) h = ap (λ (t : Bool). cond t (Some v) (find p us)) (h v (inl refl)) ∙ find_none us (λ u i. h u (inr i))

there : (cs : List Codelet) (k : ℕ) (c : Codelet) → slice_get cs k ≡ Some c → k < length cs
there [] k c e = absurd (cc)
there (d ∷ cs) zero c e = omega arith
there (d ∷ cs) (suc k) c e = let more = there cs k c e in omega arith

-- Atoms past the depth.

apart : (a b : ℕ) → (a ≡ b → ⊥) → (a == b) ≡ false
apart a b h = by_test (a == b) refl
  where
    by_test : (t : Bool) → (a == b) ≡ t → t ≡ false
    by_test true t = absurd (h (eqb-true a b t))
    by_test false t = refl

stage_in : (depth : ℕ) (places : List Place) → AllByRecursion (IsStageOf depth) places → (k s : ℕ) → slice_get (stages_of places) k ≡ Some s → (1 ≤ s) × (s ≤ depth)
stage_in depth [] h k s e = absurd (cc)
stage_in depth (p ∷ places) h zero s e = let is : p.stage ≡ s = cc in subst (λ (t : ℕ). (1 ≤ t) × (t ≤ depth)) is h.0
stage_in depth (p ∷ places) h (suc k) s e = stage_in depth places h.1 k s e

stages_in : (depth : ℕ) (places : List Place) → ((k s : ℕ) → slice_get (stages_of places) k ≡ Some s → (1 ≤ s) × (s ≤ depth)) → AllByRecursion (IsStageOf depth) places
stages_in depth [] h = tt
stages_in depth (p ∷ places) h = (h 0 p.stage refl, stages_in depth places (λ k s e. h (suc k) s e))

count_no : (q : Place → Bool) (p : Place) (places : List Place) → q p ≡ false → count_by q (p ∷ places) ≡ count_by q places
count_no q p places e = sum_by-cons (λ (y : Place). cond (q y) 1 0) p places ∙ ap (λ (t : Bool). cond t 1 0 + count_by q places) e ∙ omega arith

no_atoms : (depth : ℕ) (kind : Kind) (stage : ℕ) → ((s : ℕ) → 1 ≤ s → s ≤ depth → (stage == s) ≡ false) → (places : List Place) → AllByRecursion (IsStageOf depth) places → atoms_at places kind stage ≡ 0
no_atoms depth kind stage h [] a = refl
no_atoms depth kind stage h (p ∷ places) a =
    count_no (stands_at kind stage) p places (no_one (is_kind kind p.kind) (stage == p.stage) (h p.stage a.0.0 a.0.1)) ∙ no_atoms depth kind stage h places a.1
  where
    no_one : (a b : Bool) → b ≡ false → (a && b) ≡ false
    no_one true b e = e
    no_one false b e = refl

module _ (depth sl sf : ℕ) (cs : List Codelet) (places : List Place) where
  abbrev early : ℕ → Option HandFault
  early k = early_if cs places k (slice_get cs k)

  -- No codelet is early.

  late_enough : first_early cs places ≡ None → (k u : ℕ) (c : Codelet) → slice_get cs k ≡ Some c → IsIn u c.uses → stage_at places u < stage_at places k
  late_enough e k u c item i =
      let at : early k ≡ None = none_of early 0 (length cs) k k (omega arith) (there cs k c item) e in
      let own : early_if cs places k (Some c) ≡ None = ap (early_if cs places k) (sym item) ∙ at in
      let found = none_mapped (λ u. Early c.first (number_at cs u)) (first_late places k c) own in
      let test = none_found (λ u. nat_le (stage_at places k) (stage_at places u)) c.uses u found i in
      leb-false (stage_at places k) (stage_at places u) test

  none_early : ((k u : ℕ) (c : Codelet) → slice_get cs k ≡ Some c → IsIn u c.uses → stage_at places u < stage_at places k) → first_early cs places ≡ None
  none_early h = all_none early 0 (length cs) (λ k l. (let z : 0 + k ≡ k = omega arith in ap early z ∙ by_case k (slice_get cs k) refl))
    where
      by_case : (k : ℕ) (o : Option Codelet) → slice_get cs k ≡ o → early_if cs places k o ≡ None
      by_case k None e = refl
      by_case k (Some c) e =
          ap (option_map (λ u. Early c.first (number_at cs u)))
          (find_none (λ u. nat_le (stage_at places k) (stage_at places u)) c.uses (λ u i. le_no (stage_at places k) (stage_at places u) (h k u c e i)))
        where
          le_no : (a b : ℕ) → b < a → nat_le a b ≡ false
          le_no a b l = lt-leb a b l

  -- No stage is wide.

  wide_or : (stage : ℕ) (kind : Kind) → wide_if sl sf places stage kind ≡ None → atoms_at places kind stage ≤ width sl sf kind
  wide_or stage kind e = by_test (nat_lt (width sl sf kind) (atoms_at places kind stage)) refl e
    where
      by_test : (t : Bool) → nat_lt (width sl sf kind) (atoms_at places kind stage) ≡ t → (if t then Some (Wide stage kind) else None) ≡ None → atoms_at places kind stage ≤ width sl sf kind
      by_test true t e = absurd (cc)
      by_test false t e = ltb-false (width sl sf kind) (atoms_at places kind stage) t

  not_wide : (stage : ℕ) (kind : Kind) → atoms_at places kind stage ≤ width sl sf kind → wide_if sl sf places stage kind ≡ None
  not_wide stage kind h = ap (λ (t : Bool). if t then Some (Wide stage kind) else None) (le-ltb (width sl sf kind) (atoms_at places kind stage) h)

  narrow : AllByRecursion (IsStageOf depth) places → first_wide depth sl sf places ≡ None → (kind : Kind) (stage : ℕ) → atoms_at places kind stage ≤ width sl sf kind
  narrow stages e kind zero = let none = no_atoms depth kind 0 (λ s low high. apart 0 s (λ is. omega arith)) places stages in omega arith
  narrow stages e kind (suc stage) = by_range (cases_lt stage depth)
    where
      of_kind : (kind : Kind) → wide_at sl sf places (suc stage) ≡ None → wide_if sl sf places (suc stage) kind ≡ None
      of_kind Stateless w = (none_parts (wide_if sl sf places (suc stage) Stateless) (wide_if sl sf places (suc stage) Stateful) w).0
      of_kind Stateful w = (none_parts (wide_if sl sf places (suc stage) Stateless) (wide_if sl sf places (suc stage) Stateful) w).1

      by_range : (stage < depth) ⊎ (depth ≤ stage) → atoms_at places kind (suc stage) ≤ width sl sf kind
      by_range (inl low) =
          let at : suc stage ≡ 1 + stage = omega arith in
          wide_or (suc stage) kind (of_kind kind (ap (wide_at sl sf places) at ∙ none_at (wide_at sl sf places) 1 depth stage low e))
      by_range (inr high) = let none = no_atoms depth kind (suc stage) (λ s low top. apart (suc stage) s (λ is. omega arith)) places stages in omega arith

  none_wide : ((kind : Kind) (stage : ℕ) → atoms_at places kind stage ≤ width sl sf kind) → first_wide depth sl sf places ≡ None
  none_wide h =
      all_none (wide_at sl sf places) 1 depth
      (λ k l. none_from (wide_if sl sf places (1 + k) Stateless) (wide_if sl sf places (1 + k) Stateful) (not_wide (1 + k) Stateless (h Stateless (1 + k))) (not_wide (1 + k) Stateful (h Stateful (1 + k))))

  pub is_plan : IsHandPlan depth cs places → hand_fault depth sl sf cs places ≡ None → IsPlan depth sl sf cs places
  is_plan hand e =
      let both = none_parts (first_early cs places) (first_wide depth sl sf places) e in
      record {
        kinds = hand.kinds;
        bounds = stage_in depth places hand.stages;
        later = late_enough both.0;
        widths = narrow hand.stages both.1;
      }

  pub is_hand : depth < 2 ^ 32 → IsPlan depth sl sf cs places → IsHandPlan depth cs places
  is_hand small plan = record { word = small; kinds = plan.kinds; stages = stages_in depth places plan.bounds }

  pub is_accepted : IsPlan depth sl sf cs places → hand_fault depth sl sf cs places ≡ None
  is_accepted plan = none_from (first_early cs places) (first_wide depth sl sf places) (none_early plan.later) (none_wide plan.widths)

-- What the code asks.

pub uses_within : (cs : List Codelet) (places : List Place) (k : ℕ) (c : Codelet) (us : List ℕ) → AreLeveled cs → k < length cs → length places ≡ length cs → slice_get cs k ≡ Some c → us ≡ c.uses → All (λ u. u < length places) us
uses_within cs places k c us leveled low same item is =
    subst (λ (us : List ℕ). All (λ u. u < length places) us) (sym is) (λ j d h. (let less : get_or c.uses j d < k = (leveled k c item).0 j d h in omega arith))

pub early_by : (cs : List Codelet) (places : List Place) (k : ℕ) (c : Codelet) (stage : ℕ) (us : List ℕ) (o : Option ℕ) → slice_get cs k ≡ Some c → stage ≡ stage_at places k → us ≡ c.uses
    → o ≡ find (λ u. nat_le stage (stage_at places u)) us → early_if cs places k (slice_get cs k) ≡ option_map (λ u. Early c.first (number_at cs u)) o
early_by cs places k c stage us o item at is found =
    ap (early_if cs places k) item
    ∙ ap (option_map (λ u. Early c.first (number_at cs u)))
    (sym (found ∙ ap (find (λ u. nat_le stage (stage_at places u))) is ∙ ap (λ (s : ℕ). find (λ u. nat_le s (stage_at places u)) c.uses) at))

pub not_later : (stage result target : ℕ) → stage ≤ result → result ≡ target → nat_le stage target ≡ true
not_later stage result target h e = le-leb stage target (omega arith)

pub later : (stage result target : ℕ) → result < stage → result ≡ target → nat_le stage target ≡ false
later stage result target h e = lt-leb stage target (omega arith)
