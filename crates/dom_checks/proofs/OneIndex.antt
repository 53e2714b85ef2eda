-- All mentions of an array have one index, as long as each new one has that of the first.
use Rattle.std.proofs.Common.{◌≡◌, ℕ, Bool, true, false, not, ◌&&◌, ◌||◌, cond, nat_eq, List, [], ◌∷◌, ◌++◌, Option, Some, None, refl, sym, ap, ◌∙◌, subst, ◌⊎◌, inl, inr}
use Rattle.std.proofs.lemmas.Bool.{and_from, and_parts, cases_Bool, eq-eqb, eqb-true, false_from_ne_true, not_from_false, or_left, or_right, true≢false}
use Rattle.std.proofs.lemmas.List.Folds.{list_all-append}
use Rattle.std.proofs.lemmas.Option.{none-some}
use Rattle.std.specs.List.{find, list_all}
use Rattle.std.specs.Option.{option_map}
use Rattle.dom_ast.specs.declared.part.Place.{Place}
use Rattle.dom_ast.specs.declared.part.Place.TheVariants as place
use Rattle.dom_ast.specs.Kept.{Mention, agree, have_one_index, is_same_place, mention}
use Rattle.dom_checks.specs.declared.meant.Meant.{Meant}
use Rattle.dom_checks.specs.inner.Noted.{are_settled, has_scalar, is_at_word}
use Rattle.dom_checks.specs.Walk.{first_index, is_same_index}

same_place : (i j : Place) → is_same_place i j ≡ true → i ≡ j
same_place (place.Word w) (place.Word v) h = ap place.Word (eqb-true w v h)
same_place (place.Word w) (place.Field f) h = absurd (true≢false (sym h))
same_place (place.Field f) (place.Word w) h = absurd (true≢false (sym h))
same_place (place.Field f) (place.Field g) h = ap place.Field (eqb-true f g h)

place_itself : (i : Place) → is_same_place i i ≡ true
place_itself (place.Word w) = eq-eqb w w refl
place_itself (place.Field f) = eq-eqb f f refl

symmetric : (i j : Place) → is_same_place i j ≡ true → is_same_place j i ≡ true
symmetric i j h = subst (λ (p : Place). is_same_place p i ≡ true) (same_place i j h) (place_itself i)

eqb_flip : (a b : ℕ) → nat_eq a b ≡ true → nat_eq b a ≡ true
eqb_flip a b h = eq-eqb b a (sym (eqb-true a b h))

eqb_other : (a b : ℕ) → nat_eq a b ≡ false → nat_eq b a ≡ false
eqb_other a b other = false_from_ne_true (nat_eq b a) (λ h. true≢false (sym (eqb_flip b a h) ∙ other))

-- two mentions agree where they agree the other way round
agree_flip : (m n : Mention) → agree m n ≡ true → agree n m ≡ true
agree_flip m n h = by (cases_Bool (nat_eq n.array m.array))
  where
    by : (nat_eq n.array m.array ≡ true) ⊎ (nat_eq n.array m.array ≡ false) → agree n m ≡ true
    by (inl is) = or_right (not (nat_eq n.array m.array)) (is_same_place n.index m.index) (symmetric m.index n.index (ap (λ (b : Bool). not b || is_same_place m.index n.index) (sym (eqb_flip n.array m.array is)) ∙ h))
    by (inr other) = or_left (not (nat_eq n.array m.array)) (is_same_place n.index m.index) (not_from_false (nat_eq n.array m.array) other)

-- where each of some mentions agrees with all, and with one more, it agrees with all and that one
rows_more : (ns ms : List Mention) (m : Mention) → list_all (λ (n : Mention). list_all (agree n) ms) ns ≡ true → list_all (agree m) ns ≡ true → list_all (λ (n : Mention). list_all (agree n) (ms ++ m ∷ [])) ns ≡ true
rows_more [] ms m rows with_m = refl
rows_more (n ∷ ns) ms m rows with_m =
    let r : (list_all (agree n) ms ≡ true) × (list_all (λ (k : Mention). list_all (agree k) ms) ns ≡ true) = and_parts (list_all (agree n) ms) (list_all (λ (k : Mention). list_all (agree k) ms) ns) rows in
    let w : (agree m n ≡ true) × (list_all (agree m) ns ≡ true) = and_parts (agree m n) (list_all (agree m) ns) with_m in
    and_from (list_all (agree n) (ms ++ m ∷ [])) (list_all (λ (k : Mention). list_all (agree k) (ms ++ m ∷ [])) ns)
    (list_all-append (agree n) ms (m ∷ []) ∙ and_from (list_all (agree n) ms) (agree n m && true) r.0 (and_from (agree n m) true (agree_flip m n w.0) refl))
    (rows_more ns ms m r.1 w.1)

-- the first index on a list with one more in front
first_of : (n : Mention) (ns : List Mention) (a : ℕ) (b : Bool) → nat_eq n.array a ≡ b → first_index (n ∷ ns) a ≡ cond b (Some n.index) (first_index ns a)
first_of n ns a b e = ap (λ (t : Bool). option_map (λ (k : Mention). k.index) (cond t (Some n) (find (λ (k : Mention). nat_eq k.array a) ns))) e ∙ on b
  where
    on : (t : Bool) → option_map (λ (k : Mention). k.index) (cond t (Some n) (find (λ (k : Mention). nat_eq k.array a) ns)) ≡ cond t (Some n.index) (first_index ns a)
    on true = refl
    on false = refl

at_first : (n : Mention) (ms : List Mention) (a : ℕ) (i : Place) → nat_eq n.array a ≡ true → Some n.index ≡ Some i → list_all (agree n) ms ≡ true → list_all (agree (mention a i)) ms ≡ true
at_first n ms a i here is row =
    let at_i : n.index ≡ i = cc in
    subst (λ (k : Place). list_all (agree (mention a k)) ms ≡ true) at_i (subst (λ (k : ℕ). list_all (agree (mention k n.index)) ms ≡ true) (eqb-true n.array a here) row)

-- the first mention of an array agrees with all
first_agrees : (ns ms : List Mention) (a : ℕ) (i : Place) → list_all (λ (n : Mention). list_all (agree n) ms) ns ≡ true → first_index ns a ≡ Some i → list_all (agree (mention a i)) ms ≡ true
first_agrees [] ms a i rows is = absurd (none-some i is)
first_agrees (n ∷ ns) ms a i rows is =
    let r : (list_all (agree n) ms ≡ true) × (list_all (λ (k : Mention). list_all (agree k) ms) ns ≡ true) = and_parts (list_all (agree n) ms) (list_all (λ (k : Mention). list_all (agree k) ms) ns) rows in
    elim (cases_Bool (nat_eq n.array a)) [
      | inl here ↦ at_first n ms a i here (sym (first_of n ns a true here) ∙ is) r.0
      | inr other ↦ first_agrees ns ms a i r.1 (sym (first_of n ns a false other) ∙ is)
    ]

-- an array that was not mentioned agrees with all
none_agree : (ms : List Mention) (a : ℕ) (i : Place) → first_index ms a ≡ None → list_all (agree (mention a i)) ms ≡ true
none_agree [] a i none = refl
none_agree (n ∷ ns) a i none = elim (cases_Bool (nat_eq n.array a)) [
  | inl here ↦ absurd (none-some n.index (sym none ∙ first_of n ns a true here))
  | inr other ↦
      and_from (agree (mention a i) n) (list_all (agree (mention a i)) ns)
      (or_left (not (nat_eq a n.array)) (is_same_place i n.index) (not_from_false (nat_eq a n.array) (eqb_other n.array a other)))
      (none_agree ns a i (sym (first_of n ns a false other) ∙ none))
]

-- a mention at the first index agrees with all
same_agrees : (ms : List Mention) (a : ℕ) (i : Place) (o : Option Place) → have_one_index ms ≡ true → first_index ms a ≡ o → is_same_index o i ≡ true → list_all (agree (mention a i)) ms ≡ true
same_agrees ms a i None one first same = none_agree ms a i first
same_agrees ms a i (Some j) one first same =
    subst (λ (k : Place). list_all (agree (mention a k)) ms ≡ true) (same_place j i same) (first_agrees ms ms a j one first)

pub one_index_more : (ms : List Mention) (m : Mention) → have_one_index ms ≡ true → is_same_index (first_index ms m.array) m.index ≡ true → have_one_index (ms ++ m ∷ []) ≡ true
one_index_more ms m one same =
    let with_m : list_all (agree m) ms ≡ true = same_agrees ms m.array m.index (first_index ms m.array) one refl same in
    list_all-append (λ (n : Mention). list_all (agree n) (ms ++ m ∷ [])) ms (m ∷ [])
    ∙ and_from (list_all (λ (n : Mention). list_all (agree n) (ms ++ m ∷ [])) ms) (list_all (agree m) (ms ++ m ∷ []) && true) (rows_more ms ms m one with_m)
    (and_from (list_all (agree m) (ms ++ m ∷ [])) true
    (list_all-append (agree m) ms (m ∷ []) ∙ and_from (list_all (agree m) ms) (agree m m && true) with_m (and_from (agree m m) true (or_right (not (nat_eq m.array m.array)) (is_same_place m.index m.index) (place_itself m.index)) refl))
    refl)

-- where scalars are mentioned at their one word, that is a scalar's first index
pub scalar_first : (meanings : List Meant) (ms : List Mention) (a : ℕ) → has_scalar meanings a ≡ true → list_all (is_at_word meanings) ms ≡ true → is_same_index (first_index ms a) (place.Word 0) ≡ true
scalar_first meanings [] a scalar at_words = refl
scalar_first meanings (n ∷ ns) a scalar at_words =
    let parts : (is_at_word meanings n ≡ true) × (list_all (is_at_word meanings) ns ≡ true) = and_parts (is_at_word meanings n) (list_all (is_at_word meanings) ns) at_words in
    elim (cases_Bool (nat_eq n.array a)) [
      | inl here ↦
          let has : has_scalar meanings n.array ≡ true = ap (has_scalar meanings) (eqb-true n.array a here) ∙ scalar in
          ap (λ (o : Option Place). is_same_index o (place.Word 0)) (first_of n ns a true here) ∙ (ap (λ (b : Bool). not b || is_same_place n.index (place.Word 0)) (sym has) ∙ parts.0)
      | inr other ↦ ap (λ (o : Option Place). is_same_index o (place.Word 0)) (first_of n ns a false other) ∙ scalar_first meanings ns a scalar parts.1
    ]

-- one more mention keeps this where it has the first index and, of a scalar, is at the one word
pub settled_more : (meanings : List Meant) (ms : List Mention) (m : Mention) → are_settled meanings ms ≡ true → is_same_index (first_index ms m.array) m.index ≡ true → is_at_word meanings m ≡ true → are_settled meanings (ms ++ m ∷ []) ≡ true
settled_more meanings ms m settled same at_word =
    let s : (have_one_index ms ≡ true) × (list_all (is_at_word meanings) ms ≡ true) = and_parts (have_one_index ms) (list_all (is_at_word meanings) ms) settled in
    and_from (have_one_index (ms ++ m ∷ [])) (list_all (is_at_word meanings) (ms ++ m ∷ [])) (one_index_more ms m s.0 same)
    (list_all-append (is_at_word meanings) ms (m ∷ []) ∙ and_from (list_all (is_at_word meanings) ms) (is_at_word meanings m && true) s.1 (and_from (is_at_word meanings m) true at_word refl))
