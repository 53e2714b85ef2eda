-- A ring: the places from a position on.
use Rattle.std.proofs.Common.{◌≡◌, ℕ, zero, suc, ◌+◌, ◌-◌, ◌*◌, ◌<◌, ◌≤◌, Bool, false, Some, None, List, [], ◌∷◌, ◌++◌, length, take, drop, set, get_or, slice_get, replicate, refl, sym, ◌∙◌, ap, subst, ◌⊎◌, inl, inr, arith, length-append, length-drop}
use Rattle.std.proofs.lemmas.Bool.{cases_lt}
use Rattle.std.proofs.lemmas.List.{drop-set-add, drop-set-lt, drop-set, take-set-le, set-append_left, set-append_right, get_or_append_left, get_or-append_right, get_or-drop, get_or-take, drop_all, take-append-le, drop-drop, take-take}
use Rattle.std.proofs.Math.Seq.{take-set-lt}
use Rattle.std.proofs.lemmas.Option.{slice_get-get_or}
use Rattle.pipeline_law.specs.Stage.{results}
use Rattle.banzai_config.specs.Action.{Entry}
use Rattle.banzai_machine.specs.Ring.{IsPlace, places, rotated, shown_register}

pub take_some : {X : Type 0} (p : ℕ) (xs : List X) → p ≤ length xs → length (take p xs) ≡ p
take_some zero xs h = refl
take_some (suc p) [] h = absurd (omega arith)
take_some (suc p) (x ∷ xs) h =
    let less : p ≤ length xs = omega arith in
    ap suc (take_some p xs less)

module _ {X : Type 0} where
  pub length-rotated : (p : ℕ) (xs : List X) → p ≤ length xs → length (rotated p xs) ≡ length xs
  length-rotated p xs h = omega (arith, length-append (drop p xs) (take p xs), length-drop p xs, take_some p xs h)

  pub rotated_get : (xs : List X) (p k j : ℕ) (d : X) → p < length xs → k < length xs → IsPlace p k (length xs) j → get_or (rotated p xs) k d ≡ get_or xs j d
  rotated_get xs p k j d hp hk at = by_case (cases_lt (p + k) (length xs))
    where
      by_case : ((p + k) < length xs) ⊎ (length xs ≤ p + k) → get_or (rotated p xs) k d ≡ get_or xs j d
      by_case (inl lt) =
          let room : k < length (drop p xs) = omega (arith, length-drop p xs) in
          get_or_append_left (drop p xs) (take p xs) d k room ∙ get_or-drop p xs k d ∙ ap (λ (i : ℕ). get_or xs i d) (sym (at.near lt))
      by_case (inr le) =
          let size : length (drop p xs) ≡ length xs - p = length-drop p xs in
          let past : length xs - p ≤ k = omega arith in
          let is : k - (length xs - p) ≡ j = omega (arith, at.far le) in
          let low : j < p = omega (arith, at.far le) in
          get_or-append_right (drop p xs) (take p xs) (length xs - p) k d size past
          ∙ ap (λ (i : ℕ). get_or (take p xs) i d) is ∙ get_or-take p xs j d low

  pub rotated_set : (xs : List X) (p k j : ℕ) (x : X) → p < length xs → k < length xs → IsPlace p k (length xs) j → rotated p (set xs j x) ≡ set (rotated p xs) k x
  rotated_set xs p k j x hp hk at = by_case (cases_lt (p + k) (length xs))
    where
      by_case : ((p + k) < length xs) ⊎ (length xs ≤ p + k) → rotated p (set xs j x) ≡ set (rotated p xs) k x
      by_case (inl lt) =
          let room : k < length (drop p xs) = omega (arith, length-drop p xs) in
          let le : p ≤ p + k = omega arith in
          ap (λ (i : ℕ). rotated p (set xs i x)) (at.near lt)
          ∙ ap (λ (z : List X). z ++ take p (set xs (p + k) x)) (drop-set-add p xs k x)
          ∙ ap (λ (z : List X). set (drop p xs) k x ++ z) (take-set-le p xs (p + k) x le)
          ∙ sym (set-append_left (drop p xs) (take p xs) k x room)
      by_case (inr le) =
          let size : length (drop p xs) ≡ length xs - p = length-drop p xs in
          let past : length xs - p ≤ k = omega arith in
          let is : k - (length xs - p) ≡ j = omega (arith, at.far le) in
          let low : j < p = omega (arith, at.far le) in
          ap (λ (z : List X). z ++ take p (set xs j x)) (drop-set-lt p xs j x low)
          ∙ ap (λ (z : List X). drop p xs ++ z) (take-set-lt p xs j x low)
          ∙ ap (λ (i : ℕ). drop p xs ++ set (take p xs) i x) (sym is)
          ∙ sym (set-append_right (drop p xs) (take p xs) (length xs - p) k x size past)

  -- the place of the oldest becomes that of the newest
  pub rotated_turn : (xs : List X) (n p j : ℕ) (x : X) → n ≡ length xs → p < n → IsPlace p (n - 1) n j → rotated j (set xs j x) ≡ take n (x ∷ rotated p xs)
  rotated_turn xs n zero j x e hp at =
      let low : zero + (n - 1) < n = omega arith in
      let is : j ≡ n - 1 = omega (arith, at.near low) in
      let here : j < length xs = omega arith in
      let more : j + 1 ≡ n = omega arith in
      let n' : n ≡ suc j = omega arith in
      let gone : drop (j + 1) xs ≡ [] = drop_all (j + 1) xs (omega arith) in
      let le : j ≤ j = omega arith in
      let few : j ≤ length xs = omega arith in
      ap (λ (z : List X). z ++ take j (set xs j x)) (drop-set xs j x here)
      ∙ ap (λ (z : List X). (x ∷ z) ++ take j (set xs j x)) gone
      ∙ ap (λ (z : List X). x ∷ z) (take-set-le j xs j x le ∙ sym (take-append-le j xs [] few))
      ∙ ap (λ (i : ℕ). take i (x ∷ (xs ++ []))) (sym n')
  rotated_turn xs n (suc p) j x e hp at =
      let high : n ≤ suc p + (n - 1) = omega arith in
      let is : j ≡ p = omega (arith, at.far high) in
      let here : p < length xs = omega arith in
      let le : p ≤ p = omega arith in
      let up : p + 1 ≡ suc p = omega arith in
      let back : drop (p + 1) xs ≡ drop (suc p) xs = ap (λ (i : ℕ). drop i xs) up in
      let m : ℕ = length xs - suc p in
      let size : length (drop (suc p) xs) ≡ m = length-drop (suc p) xs in
      let n' : n ≡ suc (m + p) = omega arith in
      let less : p ≤ suc p = omega arith in
      ap (λ (i : ℕ). rotated i (set xs i x)) is
      ∙ ap (λ (z : List X). z ++ take p (set xs p x)) (drop-set xs p x here)
      ∙ ap (λ (z : List X). (x ∷ z) ++ take p (set xs p x)) back
      ∙ ap (λ (z : List X). x ∷ (drop (suc p) xs ++ z)) (take-set-le p xs p x le)
      ∙ ap (λ (z : List X). x ∷ (drop (suc p) xs ++ z)) (sym (take-take p (suc p) xs less))
      ∙ ap (λ (z : List X). x ∷ z) (sym (take_seam (drop (suc p) xs) (take (suc p) xs) m p size))
      ∙ ap (λ (i : ℕ). take i (x ∷ rotated (suc p) xs)) (sym n')
    where
      take_seam : (us vs : List X) (m q : ℕ) → length us ≡ m → take (m + q) (us ++ vs) ≡ us ++ take q vs
      take_seam [] vs m q e = ap (λ (i : ℕ). take i vs) (omega (arith, e))
      take_seam (a ∷ us) vs zero q e = absurd (omega (arith, e))
      take_seam (a ∷ us) vs (suc m) q e =
          let same : length us ≡ m = omega (arith, e) in
          let up : suc m + q ≡ suc (m + q) = omega arith in
          ap (λ (i : ℕ). take i (a ∷ (us ++ vs))) up ∙ ap (λ (z : List X). a ∷ z) (take_seam us vs m q same)

-- one more register of a ring has gone through its stage
module _ {A X S : Type 0} (run : S → A → X → A × X) where
  pub length-results : (ss : List S) (rs : List X) (a : A) → length rs ≡ length ss → length (results run ss rs a) ≡ length ss
  length-results [] rs a e = refl
  length-results (s ∷ ss) [] a e = absurd (omega (arith, e))
  length-results (s ∷ ss) (r ∷ rs) a e =
      let same : length rs ≡ length ss = omega (arith, e) in
      ap suc (length-results ss rs a same)

  results_at : (ss : List S) (rs : List X) (a : A) (k : ℕ) (s : S) (r : X) → slice_get ss k ≡ Some s → slice_get rs k ≡ Some r
      → set (take k (results run ss rs a) ++ drop k rs) k (run s a r).1 ≡ take (suc k) (results run ss rs a) ++ drop (suc k) rs
  results_at [] rs a k s r p q = cc
  results_at (t ∷ ss) [] a k s r p q = cc
  results_at (t ∷ ss) (x ∷ rs) a zero s r p q =
      let one : t ≡ s = cc in
      let two : x ≡ r = cc in
      rw (one, two) refl
  results_at (t ∷ ss) (x ∷ rs) a (suc k) s r p q = ap (λ (z : List X). (run t a x).1 ∷ z) (results_at ss rs a k s r p q)

  results_rest : (ss : List S) (rs : List X) (a : A) (k : ℕ) (d : X) → k < length ss → length rs ≡ length ss → get_or (take k (results run ss rs a) ++ drop k rs) k d ≡ get_or rs k d
  results_rest [] rs a k d h e = absurd (omega arith)
  results_rest (t ∷ ss) [] a k d h e = absurd (omega (arith, e))
  results_rest (t ∷ ss) (x ∷ rs) a zero d h e = refl
  results_rest (t ∷ ss) (x ∷ rs) a (suc k) d h e =
      let less : k < length ss = omega arith in
      let same : length rs ≡ length ss = omega (arith, e) in
      results_rest ss rs a k d less same

  -- now: the places as they are when k stages have acted
  module _ (ss : List S) (rs now : List X) (old : A) (p k j : ℕ) (hp : p < length ss) (hk : k < length ss) (same : length rs ≡ length ss) (full : length now ≡ length ss) (at : IsPlace p k (length ss) j)
      (before : rotated p now ≡ take k (results run ss rs old) ++ drop k rs) where
    pub turn_register : (d x : X) → x ≡ get_or now j d → slice_get rs k ≡ Some x
    turn_register d x is =
        let hp' : p < length now = omega arith in
        let hk' : k < length now = omega arith in
        let hr : k < length rs = omega arith in
        let at' : IsPlace p k (length now) j = subst (λ (n : ℕ). IsPlace p k n j) (sym full) at in
        slice_get-get_or rs k d hr
        ∙ ap (λ (z : X). Some z) (sym (is ∙ sym (rotated_get now p k j d hp' hk' at') ∙ ap (λ (z : List X). get_or z k d) before ∙ results_rest ss rs old k d hk same))

    pub turn_step : (s : S) (r x : X) → slice_get ss k ≡ Some s → slice_get rs k ≡ Some r → x ≡ (run s old r).1
        → rotated p (set now j x) ≡ take (suc k) (results run ss rs old) ++ drop (suc k) rs
    turn_step s r x es er is =
        let hp' : p < length now = omega arith in
        let hk' : k < length now = omega arith in
        let at' : IsPlace p k (length now) j = subst (λ (n : ℕ). IsPlace p k n j) (sym full) at in
        rotated_set now p k j x hp' hk' at'
        ∙ ap (λ (z : List X). set z k x) before
        ∙ ap (λ (z : X). set (take k (results run ss rs old) ++ drop k rs) k z) is
        ∙ results_at ss rs old k s r es er

  pub turn_all : (ss : List S) (rs now : List X) (old : A) (p k : ℕ) → length rs ≡ length ss → k ≡ length ss → rotated p now ≡ take k (results run ss rs old) ++ drop k rs
      → rotated p now ≡ results run ss rs old
  turn_all ss rs now old p k same end is = is ∙ ends ss rs k same end
    where
      ends : (ss : List S) (rs : List X) (k : ℕ) → length rs ≡ length ss → k ≡ length ss → take k (results run ss rs old) ++ drop k rs ≡ results run ss rs old
      ends [] [] zero e f = refl
      ends [] [] (suc k) e f = refl
      ends [] (r ∷ rs) k e f = absurd (omega (arith, e))
      ends (s ∷ ss) [] k e f = absurd (omega (arith, e))
      ends (s ∷ ss) (r ∷ rs) zero e f = absurd (omega (arith, f))
      ends (s ∷ ss) (r ∷ rs) (suc k) e f =
          let e' : length rs ≡ length ss = omega (arith, e) in
          let f' : k ≡ length ss = omega (arith, f) in
          ap (λ (z : List X). (run s old r).1 ∷ z) (ends ss rs k e' f')

-- places of a flat list
pub length-places : (w : ℕ) (bs : List Bool) (ws : List ℕ) → length (places w bs ws) ≡ length bs
length-places w [] ws = refl
length-places w (b ∷ bs) ws = ap suc (length-places w bs (drop w ws))

take_cut : {X : Type 0} (m n : ℕ) (xs ys : List X) → m ≤ n → take n xs ≡ take n ys → take m xs ≡ take m ys
take_cut {X = X} m n xs ys h e = sym (take-take m n xs h) ∙ ap (λ (z : List X). take m z) e ∙ take-take m n ys h

drop_cut : {X : Type 0} (w n j : ℕ) (xs ys : List X) → j ≡ w + n → take j xs ≡ take j ys → take n (drop w xs) ≡ take n (drop w ys)
drop_cut zero n j xs ys h e = take_cut n j xs ys (omega (arith, h)) e
drop_cut (suc w) n zero xs ys h e = absurd (omega (arith, h))
drop_cut (suc w) n (suc j) [] [] h e = refl
drop_cut (suc w) n (suc j) [] (y ∷ ys) h e = cc
drop_cut (suc w) n (suc j) (x ∷ xs) [] h e = cc
drop_cut (suc w) n (suc j) (x ∷ xs) (y ∷ ys) h e =
    let rest : take j xs ≡ take j ys = cc in
    drop_cut w n j xs ys (omega (arith, h)) rest

pub place_at : (w : ℕ) (bs : List Bool) (ws : List ℕ) (i : ℕ) (e : Entry) → i < length bs → shown_register (get_or bs i false) (take w (drop (i * w) ws)) ≡ get_or (places w bs ws) i e
place_at w [] ws i e h = absurd (omega arith)
place_at w (b ∷ bs) ws zero e h =
    let none : zero * w ≡ 0 = omega arith in
    ap (λ (n : ℕ). shown_register b (take w (drop n ws))) none
place_at w (b ∷ bs) ws (suc i) e h =
    let less : i < length bs = omega arith in
    let more : suc i * w ≡ w + i * w = omega arith in
    ap (λ (n : ℕ). shown_register (get_or bs i false) (take w (drop n ws))) more
    ∙ ap (λ (z : List ℕ). shown_register (get_or bs i false) (take w z)) (sym (drop-drop (i * w) w ws))
    ∙ place_at w bs (drop w ws) i e less

-- where the words differ in one place alone, only that entry differs
pub places_changed : (w : ℕ) (bs : List Bool) (ws ws' : List ℕ) (i : ℕ) (b : Bool) → i < length bs → take (i * w) ws' ≡ take (i * w) ws → drop (i * w + w) ws' ≡ drop (i * w + w) ws
    → places w (set bs i b) ws' ≡ set (places w bs ws) i (shown_register b (take w (drop (i * w) ws')))
places_changed w [] ws ws' i b h before after = absurd (omega arith)
places_changed w (c ∷ bs) ws ws' zero b h before after =
    let only : zero * w + w ≡ w = omega arith in
    let rest : drop w ws' ≡ drop w ws = subst (λ (n : ℕ). drop n ws' ≡ drop n ws) only after in
    let none : 0 ≡ zero * w = omega arith in
    ap (λ (z : List ℕ). shown_register b (take w ws') ∷ places w bs z) rest
    ∙ ap (λ (n : ℕ). shown_register b (take w (drop n ws')) ∷ places w bs (drop w ws)) none
places_changed w (c ∷ bs) ws ws' (suc i) b h before after =
    let less : i < length bs = omega arith in
    let more : suc i * w ≡ w + i * w = omega arith in
    let past : suc i * w + w ≡ w + (i * w + w) = omega arith in
    let low : w ≤ suc i * w = omega arith in
    let here : take w ws' ≡ take w ws = take_cut w (suc i * w) ws' ws low before in
    let rest_before : take (i * w) (drop w ws') ≡ take (i * w) (drop w ws) = drop_cut w (i * w) (suc i * w) ws' ws more before in
    let rest_after : drop (i * w + w) (drop w ws') ≡ drop (i * w + w) (drop w ws) =
    drop-drop (i * w + w) w ws' ∙ subst (λ (n : ℕ). drop n ws' ≡ drop n ws) past after ∙ sym (drop-drop (i * w + w) w ws) in
    ap (λ (z : List ℕ). shown_register c z ∷ places w (set bs i b) (drop w ws')) here
    ∙ ap (λ (z : List Entry). shown_register c (take w ws) ∷ z) (places_changed w bs (drop w ws) (drop w ws') i b less rest_before rest_after)
    ∙ ap (λ (z : List ℕ). shown_register c (take w ws) ∷ set (places w bs (drop w ws)) i (shown_register b (take w z))) (drop-drop (i * w) w ws')
    ∙ ap (λ (n : ℕ). shown_register c (take w ws) ∷ set (places w bs (drop w ws)) i (shown_register b (take w (drop n ws')))) (sym more)

pub places_none : (w count : ℕ) (ws : List ℕ) → places w (replicate count false) ws ≡ replicate count None
places_none w zero ws = refl
places_none w (suc count) ws = ap (λ (z : List Entry). None ∷ z) (places_none w count (drop w ws))
