-- The names of a compiled text are names as a configuration has them.
use Rattle.std.proofs.Common.{◌≡◌, Bool, true, false, not, ◌&&◌, ◌||◌, List, [], ◌∷◌, ◌++◌, map, ℕ, refl, sym, ap, ◌∙◌}
use Rattle.std.specs.List.{AllByRecursion, IsDistinct, list_all}
use Rattle.std.proofs.lemmas.Bool.{and_from, and_parts}
use Rattle.std.proofs.lemmas.Cmp.{nat_list_eq_equiv}
use Rattle.std.proofs.lemmas.List.Folds.{list_any-append}
use Rattle.dom_words.specs.Names.{has_name, is_same}
use Rattle.dom_words.specs.Spelling.{is_name}
use Rattle.dom_words.specs.declared.array.Array.{Array}
use Rattle.dom_flat.specs.declared.flat.Flat.{Flat}
use Rattle.banzai_config.specs.Legal.{are_names, is_fresh_name, name_of_array, standing_after}
use Rattle.dom_compile.specs.Compiled.{IsCompiled}
use Rattle.dom_compile.specs.WellNamed.{IsWellNamed}
use Rattle.dom_compile.proofs.WellNamed.{is_well_named}

-- names that differ, differ in either order
apart_back : (x y : List ℕ) → is_same x y ≡ false → is_same y x ≡ false
apart_back x y e = by_case (is_same y x) refl
  where
    by_case : (b : Bool) → is_same y x ≡ b → b ≡ false
    by_case false is = refl
    by_case true is =
        let same : is_same x y ≡ true = sym (nat_list_eq_equiv.congr y x y is) ∙ nat_list_eq_equiv.refl y in
        absurd (cc)

-- none of these is among the names before them, nor after one more that differs from each
absent_more : (before : List (List ℕ)) (x : List ℕ) (xs : List (List ℕ)) → AllByRecursion (λ y. has_name before y ≡ false) xs → AllByRecursion (λ y. is_same x y ≡ false) xs
    → AllByRecursion (λ y. has_name (before ++ x ∷ []) y ≡ false) xs
absent_more before x [] a b = tt
absent_more before x (y ∷ ys) a b =
    (list_any-append (is_same y) before (x ∷ []) ∙ ap (λ (t : Bool). t || (is_same y x || false)) a.0 ∙ ap (λ (t : Bool). t || false) (apart_back x y b.0), absent_more before x ys a.1 b.1)

all_fresh : (before xs : List (List ℕ)) → list_all is_name xs ≡ true → IsDistinct is_same xs → AllByRecursion (λ y. has_name before y ≡ false) xs → list_all is_fresh_name (standing_after before xs) ≡ true
unfolding IsDistinct
all_fresh before [] spelled apart absent = refl
all_fresh before (x ∷ xs) spelled apart absent =
    let parts = and_parts (is_name x) (list_all is_name xs) spelled in
    and_from (is_name x && not (has_name before x)) (list_all is_fresh_name (standing_after (before ++ x ∷ []) xs))
    (and_from (is_name x) (not (has_name before x)) parts.0 (ap not absent.0))
    (all_fresh (before ++ x ∷ []) xs parts.1 apart.1 (absent_more before x xs absent.1 apart.0))

absent_from_none : (xs : List (List ℕ)) → AllByRecursion (λ y. has_name [] y ≡ false) xs
absent_from_none [] = tt
absent_from_none (x ∷ xs) = (refl, absent_from_none xs)

fresh : (names : List (List ℕ)) → list_all is_name names ≡ true → IsDistinct is_same names → are_names names ≡ true
fresh names spelled apart = all_fresh [] names spelled apart (absent_from_none names)

module _ (text : List ℕ) (flat : Flat) (is : IsCompiled text flat) where
  known : IsWellNamed text is.program
  known = is_well_named text is.program is.program_is

  pub fields_named : are_names flat.fields ≡ true
  fields_named = ap are_names is.listed_is.fields ∙ fresh is.program.fields known.fields known.fields_apart

  pub arrays_named : are_names (map name_of_array flat.arrays) ≡ true
  arrays_named =
      ap (λ (arrays : List Array). are_names (map name_of_array arrays)) is.listed_is.arrays
      ∙ fresh (map (λ (array : Array). array.name) is.program.arrays) known.arrays known.arrays_apart
