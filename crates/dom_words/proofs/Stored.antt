-- What storing one word does to the arrays of a state.
use Rattle.std.proofs.Common.{◌≡◌, ℕ, zero, suc, ◌<◌, List, [], ◌∷◌, ◌++◌, map, length, take, drop, refl, sym, ap, ◌∙◌, get_or, set, slice_index_or, slice_set}
use Rattle.std.proofs.Math.Seq.{take-append_seam}
use Rattle.std.proofs.lemmas.List.{get_or_default, length-set, set-get_or}
use Rattle.dom_words.specs.State.{array_of, element_of, fetched, stored}

pub set_here : (arrays : List (List ℕ)) (k j w : ℕ) → get_or (set arrays k (set (get_or arrays k []) j w)) k [] ≡ set (get_or arrays k []) j w
set_here [] k j w = refl
set_here (a ∷ arrays) zero j w = refl
set_here (a ∷ arrays) (suc k) j w = set_here arrays k j w

-- a write looks at its own array alone
pub stored-same : (a b : List (List ℕ)) (k i w : ℕ) → array_of a k ≡ array_of b k → array_of (stored a k i w) k ≡ array_of (stored b k i w) k
stored-same a b k i w e =
    set_here a k (element_of (get_or a k []) i) w ∙ ap (λ (ws : List ℕ). set ws (element_of ws i) w) e ∙ sym (set_here b k (element_of (get_or b k []) i) w)

-- to write what is there changes nothing
pub stored-kept : (a : List (List ℕ)) (k i : ℕ) → array_of (stored a k i (fetched a k i)) k ≡ array_of a k
stored-kept a k i =
    set_here a k (element_of (get_or a k []) i) (fetched a k i) ∙ set-get_or (get_or a k []) (element_of (get_or a k []) i) 0

pub sizes_stay : (xs : List (List ℕ)) (a : ℕ) (words : List ℕ) → length words ≡ length (slice_index_or xs a []) → map (length {A = ℕ}) (slice_set xs a words) ≡ map (length {A = ℕ}) xs
sizes_stay [] a words same = refl
sizes_stay (x ∷ xs) zero words same = ap (λ (n : ℕ). n ∷ map length xs) same
sizes_stay (x ∷ xs) (suc a) words same = ap (λ (ns : List ℕ). length x ∷ ns) (sizes_stay xs a words same)

-- another list of words in the place of one of the same length
pub stored_sizes : (xs : List (List ℕ)) (a : ℕ) (old lent : List ℕ) (k word : ℕ) → a < length xs → old ≡ slice_index_or xs a old → lent ≡ old →
    map (length {A = ℕ}) (slice_set xs a (take (length old) (slice_set lent k word ++ drop (length (slice_set lent k word)) old))) ≡ map (length {A = ℕ}) xs
stored_sizes xs a old lent k word inside at is_old =
    let new : List ℕ = slice_set lent k word in
    let same : length new ≡ length old = length-set lent k word ∙ ap length is_old in
    let kept : take (length old) (new ++ drop (length new) old) ≡ new = ap (λ (n : ℕ). take n (new ++ drop (length new) old)) (sym same) ∙ take-append_seam new (drop (length new) old) in
    sizes_stay xs a (take (length old) (new ++ drop (length new) old)) (ap length kept ∙ same ∙ ap length at ∙ ap length (get_or_default xs a old [] inside))

-- and one word stored keeps the lengths of all arrays
pub sizes-stored : (arrays : List (List ℕ)) (a i w : ℕ) → map (length {A = ℕ}) (stored arrays a i w) ≡ map (length {A = ℕ}) arrays
sizes-stored arrays a i w =
    sizes_stay arrays a (slice_set (array_of arrays a) (element_of (array_of arrays a) i) w) (length-set (array_of arrays a) (element_of (array_of arrays a) i) w)
