-- Names one after another.
use Rattle.std.proofs.Common.{◌≡◌, ℕ, ◌+◌, ◌<◌, ◌≤◌, Bool, true, false, ◌&&◌, Option, Some, None, List, [], ◌∷◌, ◌++◌, length, take, drop, get_or, refl, sym, ap, ◌∙◌}
use Rattle.std.specs.Bool.{if◌then◌else◌}
use Rattle.std.specs.List.{list_all}
use Rattle.std.proofs.lemmas.List.{drop_more, drop_all, take_all, take_more}
use Rattle.banzai_config.specs.Legal.{are_names, is_fresh_name, standing_after}

module _ (names : List (List ℕ)) (i : ℕ) (b : List ℕ) (less : i < length names) (item : b ≡ get_or names i b) where
  pub front_more : take (i + 1) names ≡ take i names ++ b ∷ []
  front_more = take_more names i b less ∙ ap (λ y. take i names ++ y ∷ []) (sym item)

  pub name_turn : list_all is_fresh_name (standing_after (take i names) (drop i names))
      ≡ (is_fresh_name (record { before = take i names; item = b }) && list_all is_fresh_name (standing_after (take (i + 1) names) (drop (i + 1) names)))
  name_turn =
      ap (λ ys. list_all is_fresh_name (standing_after (take i names) ys)) (drop_more names i b less ∙ ap (λ y. y ∷ drop (i + 1) names) (sym item))
      ∙ ap (λ ys. is_fresh_name (record { before = take i names; item = b }) && list_all is_fresh_name (standing_after ys (drop (i + 1) names))) (sym front_more)

and_false : (x y : Bool) → x ≡ false → (x && y) ≡ false
and_false false y e = refl
and_false true y e = cc

and_true : (x y : Bool) → x ≡ true → (x && y) ≡ y
and_true true y e = refl
and_true false y e = cc

none_of : (names : List (List ℕ)) (b : Bool) → b ≡ false → None ≡ (if b then Some names else None)
none_of names false e = refl
none_of names true e = cc

some_of : (names found : List (List ℕ)) (b : Bool) → b ≡ true → found ≡ names → Some found ≡ (if b then Some names else None)
some_of names found true e f = ap (λ ys. Some ys) f
some_of names found false e f = cc

-- a name that is not fresh refuses all
pub stale : (names : List (List ℕ)) (i : ℕ) (b : List ℕ) → i < length names → b ≡ get_or names i b → (found : List (List ℕ)) → found ≡ take i names
    → are_names names ≡ list_all is_fresh_name (standing_after (take i names) (drop i names)) → false ≡ is_fresh_name (record { before = found; item = b }) → None ≡ (if are_names names then Some names else None)
stale names i b less item found at rest e =
    none_of names (are_names names)
    (rest ∙ name_turn names i b less item
    ∙ and_false _ _ (sym (e ∙ ap (λ ys. is_fresh_name (record { before = ys; item = b })) at)))

pub fresh_more : (names : List (List ℕ)) (i : ℕ) (b : List ℕ) → i < length names → b ≡ get_or names i b → (found : List (List ℕ)) → found ≡ take i names
    → are_names names ≡ list_all is_fresh_name (standing_after (take i names) (drop i names)) → true ≡ is_fresh_name (record { before = found; item = b })
    → are_names names ≡ list_all is_fresh_name (standing_after (take (i + 1) names) (drop (i + 1) names))
fresh_more names i b less item found at rest e =
    rest ∙ name_turn names i b less item ∙ and_true _ _ (sym (e ∙ ap (λ ys. is_fresh_name (record { before = ys; item = b })) at))

-- all names are fresh
pub all_fresh : (names : List (List ℕ)) (i : ℕ) (found : List (List ℕ)) → length names ≤ i → found ≡ take i names → are_names names ≡ list_all is_fresh_name (standing_after (take i names) (drop i names))
    → Some found ≡ (if are_names names then Some names else None)
all_fresh names i found all at rest =
    some_of names found (are_names names) (rest ∙ ap (λ ys. list_all is_fresh_name (standing_after (take i names) ys)) (drop_all i names all)) (at ∙ take_all i names all)
