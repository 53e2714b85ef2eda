-- Levels round by round.
use Rattle.std.proofs.Common.{◌≡◌, ℕ, zero, suc, ◌+◌, ◌<◌, ◌≤◌, Bool, true, false, cond, List, [], ◌∷◌, ◌++◌, length, map, get_or, take, refl, sym, ap, ◌∙◌, subst, arith, inl, inr, max}
use Rattle.std.specs.Prelude.{◌-◌, ◌*◌, slice_index, slice_index_or}
use Rattle.std.proofs.Math.Nat.{mul-le-mul_left}
use Rattle.std.specs.List.{All, filter, range_with_len}
use Rattle.std.proofs.lemmas.List.Elements.{All-map}
use Rattle.codelets.specs.Lists.{IsIn, level_by, max_of}
use Rattle.codelets.proofs.Levels.{filter_same, le_max_of}
use Rattle.codelets.proofs.Lists.{in_filter}

-- the greatest at one place more
pub max_at_more : (f : ℕ → ℕ) (xs : List ℕ) (k : ℕ) → k < length xs → max_of (map f (take (k + 1) xs)) ≡ max (max_of (map f (take k xs))) (f (get_or xs k 0))
max_at_more f xs k h = let one : k + 1 ≡ suc k = omega arith in ap (λ (m : ℕ). max_of (map f (take m xs))) one ∙ more xs k h
  where
    more : (ys : List ℕ) (j : ℕ) → j < length ys → max_of (map f (take (suc j) ys)) ≡ max (max_of (map f (take j ys))) (f (get_or ys j 0))
    more [] j h = absurd (omega arith)
    more (y ∷ ys) zero h = omega arith
    more (y ∷ ys) (suc j) h = let r = more ys j (omega arith) in ap (λ (m : ℕ). max (f y) m) r ∙ omega arith

pub max_of_more : (xs : List ℕ) (k : ℕ) → k < length xs → max_of (take (k + 1) xs) ≡ max (max_of (take k xs)) (get_or xs k 0)
max_of_more xs k h = let one : k + 1 ≡ suc k = omega arith in ap (λ (m : ℕ). max_of (take m xs)) one ∙ more xs k h
  where
    more : (ys : List ℕ) (j : ℕ) → j < length ys → max_of (take (suc j) ys) ≡ max (max_of (take j ys)) (get_or ys j 0)
    more [] j h = absurd (omega arith)
    more (y ∷ ys) zero h = omega arith
    more (y ∷ ys) (suc j) h = let r = more ys j (omega arith) in ap (λ (m : ℕ). max y m) r ∙ omega arith

module _ {X : Type 0} where
  -- places instead of what stands there
  max_placed : (t : X → Bool) (f : X → ℕ) (s : ℕ → Bool) (g : ℕ → ℕ) (d : X) (k : ℕ) (xs : List X) → ((i : ℕ) → i < length xs → (s (k + i) ≡ t (get_or xs i d)) × (g (k + i) ≡ f (get_or xs i d)))
      → max_of (map g (filter s (range_with_len k (length xs)))) ≡ max_of (map f (filter t xs))
  max_placed t f s g d k [] same = refl
  max_placed t f s g d k (x ∷ xs) same =
      let here : k + 0 ≡ k = omega arith in
      let first = same 0 (omega arith) in
      by_case (s k) (t x) (ap s (sym here) ∙ first.0) (ap g (sym here) ∙ first.1)
      (max_placed t f s g d (k + 1) xs (λ i h. let next : k + 1 + i ≡ k + suc i = omega arith in let r = same (suc i) (omega arith) in (ap s next ∙ r.0, ap g next ∙ r.1)))
    where
      by_case : (b c : Bool) → b ≡ c → g k ≡ f x → max_of (map g (filter s (range_with_len (k + 1) (length xs)))) ≡ max_of (map f (filter t xs))
          → max_of (map g (cond b (k ∷ filter s (range_with_len (k + 1) (length xs))) (filter s (range_with_len (k + 1) (length xs))))) ≡ max_of (map f (cond c (x ∷ filter t xs) (filter t xs)))
      by_case true true e v r = ap (λ (m : ℕ). max m (max_of (map g (filter s (range_with_len (k + 1) (length xs)))))) v ∙ ap (max (f x)) r
      by_case true false e v r = absurd (cc)
      by_case false true e v r = absurd (cc)
      by_case false false e v r = r

  read_at : (f : X → ℕ) (xs : List X) (i : ℕ) (d : X) → i < length xs → slice_index (map f xs) i ≡ f (get_or xs i d)
  read_at f [] i d h = absurd (omega arith)
  read_at f (x ∷ xs) zero d h = refl
  read_at f (x ∷ xs) (suc i) d h = read_at f xs i d (omega arith)

  -- the places in a list of those that pass
  abbrev pub places_of : (X → Bool) → List X → X → List ℕ
  places_of t xs d = filter (λ k. t (get_or xs k d)) (range_with_len 0 (length xs))

  max_listed : (t : X → Bool) (f : X → ℕ) (xs : List X) (d : X) → max_of (map (slice_index (map f xs)) (places_of t xs d)) ≡ max_of (map f (filter t xs))
  max_listed t f xs d =
      max_placed t f (λ k. t (get_or xs k d)) (slice_index (map f xs)) d 0 xs (λ i h.
      let at : 0 + i ≡ i = omega arith in (ap (λ (k : ℕ). t (get_or xs k d)) at, ap (slice_index (map f xs)) at ∙ read_at f xs i d h))

  map_map : {Y Z : Type 0} (f : Y → Z) (g : X → Y) (xs : List X) → map f (map g xs) ≡ map (λ x. f (g x)) xs
  map_map f g [] = refl
  map_map f g (x ∷ xs) = ap (λ ys. f (g x) ∷ ys) (map_map f g xs)

  map_same : (f g : X → ℕ) (xs : List X) → ((x : X) → f x ≡ g x) → map f xs ≡ map g xs
  map_same f g [] each = refl
  map_same f g (x ∷ xs) each = let head : f x ≡ g x = each x in let tail : map f xs ≡ map g xs = map_same f g xs each in cc (head, tail)

  -- a round gives the levels at one fuel more
  pub round_levels : (uses : X → X → Bool) (all : List X) (d : X) (k : ℕ) (levels : List ℕ) → levels ≡ map (level_by uses all k) all
      → map (λ us. suc (max_of (map (slice_index levels) us))) (map (λ c. places_of (uses c) all d) all) ≡ map (level_by uses all (suc k)) all
  round_levels uses all d k levels e =
      ap (λ (ls : List ℕ). map (λ us. suc (max_of (map (slice_index ls) us))) (map (λ c. places_of (uses c) all d) all)) e
      ∙ map_map (λ us. suc (max_of (map (slice_index (map (level_by uses all k) all)) us))) (λ c. places_of (uses c) all d) all
      ∙ map_same (λ c. suc (max_of (map (slice_index (map (level_by uses all k) all)) (places_of (uses c) all d)))) (level_by uses all (suc k)) all (λ c. ap suc (max_listed (uses c) (level_by uses all k) all d))

  -- once a round changes nothing, none does
  pub levels_settled : (uses : X → X → Bool) (all : List X) (d : X) (k i : ℕ) → map (level_by uses all (suc k)) all ≡ map (level_by uses all k) all → map (level_by uses all (i + k)) all ≡ map (level_by uses all k) all
  levels_settled uses all d k zero e = let z : 0 + k ≡ k = omega arith in ap (λ (m : ℕ). map (level_by uses all m) all) z
  levels_settled uses all d k (suc i) e =
      let s : suc i + k ≡ suc (i + k) = omega arith in
      ap (λ (m : ℕ). map (level_by uses all m) all) s
      ∙ sym (round_levels uses all d (i + k) (map (level_by uses all k) all) (sym (levels_settled uses all d k i e)))
      ∙ round_levels uses all d k (map (level_by uses all k) all) refl
      ∙ e

  max_bound : (f : X → ℕ) (b : ℕ) (xs : List X) → ((x : X) → f x ≤ b) → max_of (map f xs) ≤ b
  max_bound f b [] each = omega arith
  max_bound f b (x ∷ xs) each = let h = each x in let r = max_bound f b xs each in omega arith

  -- a level is at most one more than the fuel
  pub level_bound : (uses : X → X → Bool) (all : List X) (k : ℕ) (c : X) → level_by uses all k c ≤ suc k
  level_bound uses all zero c = omega arith
  level_bound uses all (suc k) c = let h = max_bound (level_by uses all k) (suc k) (filter (uses c) all) (level_bound uses all k) in omega arith

module _ {X : Type 0} where
  pub levels_small : (uses : X → X → Bool) (all : List X) (k : ℕ) (levels : List ℕ) → levels ≡ map (level_by uses all k) all → k < 300000 → All (λ l. l < 1000000) levels
  levels_small uses all k levels e h =
      subst (λ (ls : List ℕ). All (λ l. l < 1000000) ls) (sym e) (All-map (λ l. l < 1000000) (level_by uses all k) all (λ i d less. let b = level_bound uses all k (slice_index_or all i d) in omega arith))

  pub settled_at : (uses : X → X → Bool) (all : List X) (d : X) (k m : ℕ) (levels next : List ℕ) (lists : List (List ℕ)) → lists ≡ map (λ c. places_of (uses c) all d) all → levels ≡ map (level_by uses all k) all
      → next ≡ map (λ us. suc (max_of (map (slice_index levels) us))) lists → next ≡ levels → k ≤ m → levels ≡ map (level_by uses all m) all
  settled_at uses all d k m levels next lists is now made same le =
      let round : map (level_by uses all (suc k)) all ≡ next = sym (made ∙ ap (λ (rs : List (List ℕ)). map (λ us. suc (max_of (map (slice_index levels) us))) rs) is ∙ round_levels uses all d k levels now) in
      let still : map (level_by uses all (suc k)) all ≡ map (level_by uses all k) all = round ∙ same ∙ now in
      let sum : m - k + k ≡ m = omega arith in
      now ∙ sym (levels_settled uses all d k (m - k) still) ∙ ap (λ (j : ℕ). map (level_by uses all j) all) sum

  pub next_round : (uses : X → X → Bool) (all : List X) (d : X) (k : ℕ) (levels next : List ℕ) (lists : List (List ℕ)) → lists ≡ map (λ c. places_of (uses c) all d) all → levels ≡ map (level_by uses all k) all
      → next ≡ map (λ us. suc (max_of (map (slice_index levels) us))) lists → next ≡ map (level_by uses all (k + 1)) all
  next_round uses all d k levels next lists is now made =
      let one : suc k ≡ k + 1 = omega arith in
      made ∙ ap (λ (rs : List (List ℕ)). map (λ us. suc (max_of (map (slice_index levels) us))) rs) is ∙ round_levels uses all d k levels now ∙ ap (λ (j : ℕ). map (level_by uses all j) all) one

module _ {X : Type 0} (uses : X → X → Bool) (all : List X) (d : X) (levels : List ℕ) where
  -- what a round makes of numbers at an element
  abbrev made : X → ℕ
  made c = suc (max_of (map (slice_index levels) (places_of (uses c) all d)))

  -- where a round leaves numbers as they are, they are the levels at enough fuel
  settled_level : levels ≡ map made all → (n : ℕ) (c : X) → made c ≤ suc n → level_by uses all n c ≡ made c
  settled_level is zero c h = omega arith
  settled_level is (suc n) c h =
      let here : made c ≡ suc (max_of (map made (filter (uses c) all))) =
      ap (λ (ls : List ℕ). suc (max_of (map (slice_index ls) (places_of (uses c) all d)))) is ∙ ap suc (max_listed (uses c) made all d) in
      ap (λ (ls : List ℕ). suc (max_of ls)) (filter_same (level_by uses all n) made (uses c) all (λ x i u. let lt = le_max_of made (filter (uses c) all) x (in_filter (uses c) all x i u) in settled_level is n x (omega arith))) ∙ sym here

  map_in_same : (f g : X → ℕ) (xs : List X) → ((x : X) → IsIn x xs → f x ≡ g x) → map f xs ≡ map g xs
  map_in_same f g [] each = refl
  map_in_same f g (x ∷ xs) each = let head : f x ≡ g x = each x (inl refl) in let tail : map f xs ≡ map g xs = map_in_same f g xs (λ y i. each y (inr i)) in cc (head, tail)

  pub settled_levels : (lists : List (List ℕ)) → lists ≡ map (λ c. places_of (uses c) all d) all → levels ≡ map (λ us. suc (max_of (map (slice_index levels) us))) lists
      → (n : ℕ) → max_of levels ≤ n → levels ≡ map (level_by uses all n) all
  settled_levels lists is same n most =
      let each : levels ≡ map made all = same ∙ ap (map (λ us. suc (max_of (map (slice_index levels) us)))) is ∙ map_map (λ us. suc (max_of (map (slice_index levels) us))) (λ c. places_of (uses c) all d) all in
      let top : max_of (map made all) ≤ n = subst (λ (ls : List ℕ). max_of ls ≤ n) each most in
      each ∙ sym (map_in_same (level_by uses all n) made all (λ x i. let le = le_max_of made all x i in settled_level each n x (omega arith)))

pub small_by_max : (xs : List ℕ) (m : ℕ) → max_of xs ≤ m → m < 1000000 → All (λ l. l < 1000000) xs
small_by_max [] m le small k d h = absurd (omega arith)
small_by_max (x ∷ xs) m le small zero d h = omega arith
small_by_max (x ∷ xs) m le small (suc k) d h = small_by_max xs m (omega arith) small k d (omega arith)

pub square_small : (m : ℕ) → m ≤ 512 → (m + 1) * (m + 1) < 300000
square_small m h = let r : (m + 1) * (m + 1) ≤ (m + 1) * 513 = mul-le-mul_left (m + 1) (omega arith) in omega arith

pub ones_more : {X : Type 0} (xs : List X) (k : ℕ) → k < length xs → map {B = ℕ} (λ _. 1) (take k xs) ++ 1 ∷ [] ≡ map {B = ℕ} (λ _. 1) (take (k + 1) xs)
ones_more xs k h = let one : suc k ≡ k + 1 = omega arith in more xs k h ∙ ap (λ (m : ℕ). map {B = ℕ} (λ _. 1) (take m xs)) one
  where
    more : {Y : Type 0} (ys : List Y) (j : ℕ) → j < length ys → map {B = ℕ} (λ _. 1) (take j ys) ++ 1 ∷ [] ≡ map {B = ℕ} (λ _. 1) (take (suc j) ys)
    more [] j h = absurd (omega arith)
    more (y ∷ ys) zero h = refl
    more (y ∷ ys) (suc j) h = ap (λ (ns : List ℕ). 1 ∷ ns) (more ys j (omega arith))
