-- Words on lists.
use Rattle.std.specs.Prelude.{◌≡◌, ◌≢◌, ⊤, ℕ, zero, suc, Bool, false, nat_eq, List, [], ◌∷◌, map, Option, Some, None, ◌⊎◌, if◌then◌else◌, max}
use Rattle.std.specs.List.{AllByRecursion, list_any, filter}

-- an element of a list
abbrev pub IsIn : {X : Type 0} → X → List X → Type 0
IsIn x [] = ⊥
IsIn x (y ∷ ys) = (x ≡ y) ⊎ IsIn x ys

abbrev pub has : List ℕ → ℕ → Bool
has xs x = list_any (nat_eq x) xs

-- a number is in both
abbrev pub meet : List ℕ → List ℕ → Bool
meet xs ys = list_any (has ys) xs

-- each number once, where it stands first, but for those seen before
abbrev pub once : List ℕ → List ℕ → List ℕ
once seen [] = []
once seen (x ∷ xs) = if has seen x then once seen xs else x ∷ once (x ∷ seen) xs

-- the first place of a number
abbrev pub place_in : List ℕ → ℕ → ℕ
place_in [] v = 0
place_in (x ∷ xs) v = if nat_eq x v then 0 else suc (place_in xs v)

-- the place of a number that is there
abbrev pub place_if : List ℕ → ℕ → Option ℕ
place_if xs v = if has xs v then Some (place_in xs v) else None

abbrev pub max_of : List ℕ → ℕ
max_of [] = 0
max_of (x ∷ xs) = max x (max_of xs)

abbrev pub option_or : {X : Type 0} → Option X → Option X → Option X
option_or None later = later
option_or (Some x) later = Some x

-- the first answer along a list
abbrev pub first_some : {X Y : Type 0} → (X → Option Y) → List X → Option Y
first_some f [] = None
first_some f (x ∷ xs) = option_or (f x) (first_some f xs)

-- one more than the greatest level of what is used, looking back over at most n uses
abbrev pub level_by : {X : Type 0} → (X → X → Bool) → List X → ℕ → X → ℕ
level_by uses all zero c = 1
level_by uses all (suc n) c = suc (max_of (map (level_by uses all n) (filter (uses c) all)))

-- no number twice
abbrev pub AreDistinct : List ℕ → Type 0
AreDistinct [] = ⊤
AreDistinct (x ∷ xs) = AllByRecursion (λ y. x ≢ y) xs × AreDistinct xs

-- no two lists have a number in common
abbrev pub AreApart : List (List ℕ) → Type 0
AreApart [] = ⊤
AreApart (c ∷ cs) = AllByRecursion (λ d. meet c d ≡ false) cs × AreApart cs
