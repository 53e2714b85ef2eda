-- Lists of numbers that have none in common.
use Rattle.std.proofs.Common.{◌≡◌, ℕ, Bool, true, false, not, ◌||◌, nat_eq, List, [], ◌∷◌, ◌++◌, refl, sym, ap, ◌∙◌, ◌≢◌}
use Rattle.std.specs.List.{flat_map, list_all, AllByRecursion as Every}
use Rattle.std.proofs.lemmas.Bool.{and_from, and_parts, eq-eqb, eqb-false, eqb-true, false≢true}
use Rattle.std.proofs.lemmas.List.Folds.{list_all-append}
use Rattle.banzai_config.specs.Legal.{are_apart, has}

not_false : (b : Bool) → not b ≡ true → b ≡ false
not_false true e = cc
not_false false e = refl

or_none : (a b : Bool) → a ≡ false → b ≡ false → (a || b) ≡ false
or_none true b x y = cc
or_none false b x y = y

or_parts : (a b : Bool) → (a || b) ≡ false → (a ≡ false) × (b ≡ false)
or_parts true b e = cc
or_parts false b e = (refl, e)

other : (x y : ℕ) → nat_eq y x ≡ false → nat_eq x y ≡ false
other x y e = by_answer (nat_eq x y) refl where
  by_answer : (r : Bool) → nat_eq x y ≡ r → nat_eq x y ≡ false
  by_answer false is = is
  by_answer true is = absurd (false≢true (sym e ∙ eq-eqb y x (sym (eqb-true x y is))))

-- a number that fails a test is not in a list that passes it
unlike : (p : ℕ → Bool) (c : ℕ) (xs : List ℕ) → p c ≡ false → list_all p xs ≡ true → has c xs ≡ false
unlike p c [] fails all = refl
unlike p c (x ∷ xs) fails all = or_none (nat_eq c x) (has c xs) (by_answer (nat_eq c x) refl) (unlike p c xs fails (and_parts (p x) (list_all p xs) all).1) where
  by_answer : (r : Bool) → nat_eq c x ≡ r → nat_eq c x ≡ false
  by_answer false is = is
  by_answer true is = absurd (false≢true (sym fails ∙ ap p (eqb-true c x is) ∙ (and_parts (p x) (list_all p xs) all).0))

-- all of one list pass a test and none of the other does
pub apart_by : (p : ℕ → Bool) (xs cs : List ℕ) → list_all p xs ≡ true → list_all (λ c. not (p c)) cs ≡ true → are_apart xs cs ≡ true
apart_by p xs [] all none = refl
apart_by p xs (c ∷ cs) all none =
    let both = and_parts (not (p c)) (list_all (λ c. not (p c)) cs) none in
    and_from _ _ (ap not (unlike p c xs (not_false (p c) both.0) all)) (apart_by p xs cs all both.1)

apart_first : (x : ℕ) (xs ys : List ℕ) → are_apart (x ∷ xs) ys ≡ true → (has x ys ≡ false) × (are_apart xs ys ≡ true)
apart_first x xs [] e = (refl, refl)
apart_first x xs (y ∷ ys) e =
    let both = and_parts (not (nat_eq y x || has y xs)) (are_apart (x ∷ xs) ys) e in
    let neither = or_parts (nat_eq y x) (has y xs) (not_false (nat_eq y x || has y xs) both.0) in
    let rest = apart_first x xs ys both.1 in
    (or_none (nat_eq x y) (has x ys) (other x y neither.0) rest.0, and_from _ _ (ap not neither.1) rest.1)

pub apart_sym : (xs ys : List ℕ) → are_apart xs ys ≡ true → are_apart ys xs ≡ true
apart_sym [] ys e = refl
apart_sym (x ∷ xs) ys e =
    let both = apart_first x xs ys e in
    and_from _ _ (ap not both.0) (apart_sym xs ys both.1)

-- apart from each of two lists
apart_join : (xs cs ds : List ℕ) → are_apart xs cs ≡ true → are_apart xs ds ≡ true → are_apart xs (cs ++ ds) ≡ true
apart_join xs cs ds e f = list_all-append (λ c. not (has c xs)) cs ds ∙ and_from _ _ e f

-- two more lists: of what is read and of what is written
pub apart_more : (rs ts reads targets : List ℕ) → are_apart rs ts ≡ true → are_apart ts reads ≡ true → are_apart (rs ++ reads) targets ≡ true
    → are_apart (rs ++ reads) (ts ++ targets) ≡ true
apart_more rs ts reads targets d e f =
    apart_join (rs ++ reads) ts targets (apart_sym ts (rs ++ reads) (apart_join ts rs reads (apart_sym rs ts d) e)) f

apart_left : (xs cs ds : List ℕ) → are_apart xs (cs ++ ds) ≡ true → are_apart xs cs ≡ true
apart_left xs cs ds e = (and_parts (are_apart xs cs) (are_apart xs ds) (sym (list_all-append (λ c. not (has c xs)) cs ds) ∙ e)).0

apart_right : (xs cs ds : List ℕ) → are_apart xs (cs ++ ds) ≡ true → are_apart xs ds ≡ true
apart_right xs cs ds e = (and_parts (are_apart xs cs) (are_apart xs ds) (sym (list_all-append (λ c. not (has c xs)) cs ds) ∙ e)).1

none_same : (t : ℕ) (ks : List ℕ) → has t ks ≡ false → Every (λ k. t ≢ k) ks
none_same t [] e = tt
none_same t (k ∷ ks) e =
    let both = or_parts (nat_eq t k) (has t ks) e in
    (eqb-false t k both.0, none_same t ks both.1)

-- no number of the one list is one of the other
pub each_apart : (ks ts : List ℕ) → are_apart ks ts ≡ true → Every (λ t. Every (λ k. t ≢ k) ks) ts
each_apart ks [] e = tt
each_apart ks (t ∷ ts) e =
    let both = and_parts (not (has t ks)) (are_apart ks ts) e in
    (none_same t ks (not_false (has t ks) both.0), each_apart ks ts both.1)

-- where items write nothing that one of them reads: nothing that the first one writes is read by a later one
pub apart_later : {A : Type 0} (reads targets : A → List ℕ) (x : A) (xs : List A) → are_apart (flat_map reads (x ∷ xs)) (flat_map targets (x ∷ xs)) ≡ true
    → Every (λ y. Every (λ t. Every (λ k. t ≢ k) (reads y)) (targets x)) xs
apart_later {A} reads targets x xs e = by_items xs (apart_right (targets x) (reads x) (flat_map reads xs) (apart_sym (reads x ++ flat_map reads xs) (targets x) (apart_left (reads x ++ flat_map reads xs) (targets x) (flat_map targets xs) e))) where
  by_items : (ys : List A) → are_apart (targets x) (flat_map reads ys) ≡ true → Every (λ y. Every (λ t. Every (λ k. t ≢ k) (reads y)) (targets x)) ys
  by_items [] d = tt
  by_items (y ∷ ys) d = (each_apart (reads y) (targets x) (apart_sym (targets x) (reads y) (apart_left (targets x) (reads y) (flat_map reads ys) d)), by_items ys (apart_right (targets x) (reads y) (flat_map reads ys) d))

-- and the later ones among themselves
pub apart_rest : {A : Type 0} (reads targets : A → List ℕ) (x : A) (xs : List A) → are_apart (flat_map reads (x ∷ xs)) (flat_map targets (x ∷ xs)) ≡ true
    → are_apart (flat_map reads xs) (flat_map targets xs) ≡ true
apart_rest reads targets x xs e =
    apart_sym (flat_map targets xs) (flat_map reads xs)
    (apart_right (flat_map targets xs) (reads x) (flat_map reads xs)
    (apart_sym (reads x ++ flat_map reads xs) (flat_map targets xs) (apart_right (reads x ++ flat_map reads xs) (targets x) (flat_map targets xs) e)))
