-- Lists of attached boxes, one of which changes.
use Rattle.std.proofs.Common.{◌≡◌, ℕ, zero, suc, ◌<◌, length, arith, Some, List, [], ◌∷◌, ◌++◌, map, take, drop, set, slice_get, get_or, refl, ap, sym, ◌∙◌}
use Rattle.std.proofs.lemmas.List.{length-map, map-set}
use Rattle.probe_taps.specs.declared.attached.Attached.{Attached}
use Rattle.probe_taps.specs.Attached.{AttachedForm, attached_form, attached_forms}
use Rattle.probe_taps.specs.Taps.{TapForm}

-- a step over the first items of a list, and then over one more
module _ {Y : Type 0} (step : Y → Y) where
  pub mid_at : (ys : List Y) (k : ℕ) (d : Y) → get_or (map step (take k ys) ++ drop k ys) k d ≡ get_or ys k d
  mid_at [] zero d = refl
  mid_at [] (suc k) d = refl
  mid_at (y ∷ ys) zero d = refl
  mid_at (y ∷ ys) (suc k) d = mid_at ys k d

  pub mid_next : (ys : List Y) (k : ℕ) (d : Y) → k < length ys
      → set (map step (take k ys) ++ drop k ys) k (step (get_or ys k d)) ≡ map step (take (suc k) ys) ++ drop (suc k) ys
  mid_next [] k d n = absurd (omega arith)
  mid_next (y ∷ ys) zero d n = refl
  mid_next (y ∷ ys) (suc k) d n =
      let less : k < length ys = omega arith in
      ap (λ z. step y ∷ z) (mid_next ys k d less)

module _ {X Y : Type 0} (f : X → Y) where
  pub or_map : (xs : List X) (k : ℕ) (d : X) (e : Y) → k < length xs → get_or (map f xs) k e ≡ f (get_or xs k d)
  or_map [] k d e n = absurd (omega arith)
  or_map (x ∷ xs) zero d e n = refl
  or_map (x ∷ xs) (suc k) d e n =
      let less : k < length xs = omega arith in
      or_map xs k d e less

  -- an item that has made the step takes its place behind those that have
  pub step_at : (step : Y → Y) (now olds : List X) (k : ℕ) (x d : X) → k < length now → length now ≡ length olds
      → map f now ≡ map step (take k (map f olds)) ++ drop k (map f olds) → f x ≡ step (f (get_or now k d))
      → map f (set now k x) ≡ map step (take (suc k) (map f olds)) ++ drop (suc k) (map f olds)
  step_at step now olds k x d n same is e =
      let less : k < length olds = omega arith in
      let old : f (get_or now k d) ≡ f (get_or olds k d) =
      sym (or_map now k d (f d) n) ∙ ap (λ ys. get_or ys k (f d)) is ∙ mid_at step (map f olds) k (f d) ∙ or_map olds k d (f d) less in
      let old_or : get_or (map f olds) k (f d) ≡ f (get_or olds k d) = or_map olds k d (f d) less in
      map-set f now k x
      ∙ ap (λ ys. set ys k (f x)) is
      ∙ ap (λ y. set (map step (take k (map f olds)) ++ drop k (map f olds)) k y) (e ∙ ap step (old ∙ sym old_or))
      ∙ mid_next step (map f olds) k (f d) (rw (length-map olds f) less)

-- what attached boxes are, at one position
module _ {B : Type 0} {depth : ℕ} (form : B → TapForm) where
  pub get_form : {Z : Type 0} (g : AttachedForm → Z) (xs : List (Attached B depth)) (k : ℕ) (a : Attached B depth) → k < length xs
      → a ≡ get_or xs k a → slice_get (map g (attached_forms form xs)) k ≡ Some (g (attached_form form a))
  get_form g [] k a n e = absurd (omega arith)
  get_form g (x ∷ xs) zero a n e = ap (λ z. Some (g (attached_form form z))) (sym e)
  get_form g (x ∷ xs) (suc k) a n e =
      let less : k < length xs = omega arith in
      get_form g xs k a less e

  pub taps_set : (xs : List (Attached B depth)) (k : ℕ) (a : Attached B depth)
      → map (λ a. a.tap) (attached_forms form (set xs k a)) ≡ set (map (λ a. a.tap) (attached_forms form xs)) k (form a.tap)
  taps_set xs k a =
      ap (λ ys. map (λ a. a.tap) ys) (map-set (attached_form form) xs k a)
      ∙ map-set (λ (a : AttachedForm). a.tap) (attached_forms form xs) k (attached_form form a)

  pub stages_set : (xs : List (Attached B depth)) (k : ℕ) (a b : Attached B depth) → k < length xs → b ≡ get_or xs k b → a.stage ≡ b.stage
      → map (λ a. a.stage) (attached_forms form (set xs k a)) ≡ map (λ a. a.stage) (attached_forms form xs)
  stages_set [] k a b n is same = absurd (omega arith)
  stages_set (x ∷ xs) zero a b n is same = ap (λ n. n ∷ map (λ a. a.stage) (attached_forms form xs)) (same ∙ ap (λ (z : Attached B depth). z.stage) is)
  stages_set (x ∷ xs) (suc k) a b n is same =
      let less : k < length xs = omega arith in
      ap (λ z. x.stage ∷ z) (stages_set xs k a b less is same)
