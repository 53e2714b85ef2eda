-- Each unit is found by its name, and nothing else is.
use Rattle.std.proofs.Common.{◌≡◌, ℕ, zero, suc, ◌≤◌, Bool, true, false, List, [], ◌∷◌, ◌++◌, Option, Some, None, IfSome, IfNone, cond, codes, refl, sym, ap, ◌∙◌, subst, arith}
use Rattle.std.proofs.Math.Bridge.{le_prop}
use Rattle.std.proofs.lemmas.Bool.{false_from_ne_true}
use Rattle.std.proofs.lemmas.List.{append_cancel_left}
use Rattle.std.proofs.lemmas.Slice.Eq.{bytes_eq-Decides}
use Rattle.std.specs.List.{find}
use Rattle.dom_words.specs.Names.{is_same}
use Rattle.dom_words.specs.Units.{unit_ending, unit_named, unit_text, units}
use Rattle.dom_words.specs.declared.hash.HashName.{HashName}

-- the unit with these numbers, by any proofs of their bounds
abbrev pub unit_with : (a l : ℕ) → 1 ≤ a → a ≤ 4 → l ≤ 8 → HashName
unit_with a l s f t = record { args = a; letter = l; some_args = s; few_args = f; letter_to_h = t }

same_facts : (a l : ℕ) (s x : 1 ≤ a) (f y : a ≤ 4) (t z : l ≤ 8) → unit_with a l s f t ≡ unit_with a l x y z
same_facts a l s x f y t z = ap (λ w. unit_with a l w f t) (le_prop s x) ∙ (ap (λ w. unit_with a l x w t) (le_prop f y) ∙ ap (λ w. unit_with a l x y w) (le_prop t z))

same_letter : (a l : ℕ) (s : 1 ≤ a) (f : a ≤ 4) (t : l ≤ 8) (m : ℕ) → l ≡ m → (x : 1 ≤ a) (y : a ≤ 4) (z : m ≤ 8) → unit_with a l s f t ≡ unit_with a m x y z
same_letter a l s f t m q = subst (λ n. (x : 1 ≤ a) (y : a ≤ 4) (z : n ≤ 8) → unit_with a l s f t ≡ unit_with a n x y z) q (λ x y z. same_facts a l s x f y t z)

same_numbers : (a l : ℕ) (s : 1 ≤ a) (f : a ≤ 4) (t : l ≤ 8) (b m : ℕ) → a ≡ b → l ≡ m → (x : 1 ≤ b) (y : b ≤ 4) (z : m ≤ 8) → unit_with a l s f t ≡ unit_with b m x y z
same_numbers a l s f t b m p q = subst (λ n. (x : 1 ≤ n) (y : n ≤ 4) (z : m ≤ 8) → unit_with a l s f t ≡ unit_with n m x y z) p (λ x y z. same_letter a l s f t m q x y z)

-- two units with the same numbers are the same
pub same_unit : (u v : HashName) → u.args ≡ v.args → u.letter ≡ v.letter → u ≡ v
same_unit u v p q = same_numbers u.args u.letter u.some_args u.few_args u.letter_to_h v.args v.letter p q v.some_args v.few_args v.letter_to_h

some_same : {u v : HashName} → u.args ≡ v.args → u.letter ≡ v.letter → Some u ≡ Some v
some_same p q = ap Some (same_unit _ _ p q)

-- a fact of each number of arguments, and of each letter's number
by_count : (P : ℕ → Type 0) → P 1 → P 2 → P 3 → P 4 → (n : ℕ) → 1 ≤ n → n ≤ 4 → P n
by_count P p1 p2 p3 p4 zero s f = absurd (omega arith)
by_count P p1 p2 p3 p4 (suc zero) s f = p1
by_count P p1 p2 p3 p4 (suc (suc zero)) s f = p2
by_count P p1 p2 p3 p4 (suc (suc (suc zero))) s f = p3
by_count P p1 p2 p3 p4 (suc (suc (suc (suc zero)))) s f = p4
by_count P p1 p2 p3 p4 (suc (suc (suc (suc (suc n))))) s f = absurd (omega arith)

by_letter : (P : ℕ → Type 0) → P 0 → P 1 → P 2 → P 3 → P 4 → P 5 → P 6 → P 7 → P 8 → (n : ℕ) → n ≤ 8 → P n
by_letter P p0 p1 p2 p3 p4 p5 p6 p7 p8 zero t = p0
by_letter P p0 p1 p2 p3 p4 p5 p6 p7 p8 (suc zero) t = p1
by_letter P p0 p1 p2 p3 p4 p5 p6 p7 p8 (suc (suc zero)) t = p2
by_letter P p0 p1 p2 p3 p4 p5 p6 p7 p8 (suc (suc (suc zero))) t = p3
by_letter P p0 p1 p2 p3 p4 p5 p6 p7 p8 (suc (suc (suc (suc zero)))) t = p4
by_letter P p0 p1 p2 p3 p4 p5 p6 p7 p8 (suc (suc (suc (suc (suc zero))))) t = p5
by_letter P p0 p1 p2 p3 p4 p5 p6 p7 p8 (suc (suc (suc (suc (suc (suc zero)))))) t = p6
by_letter P p0 p1 p2 p3 p4 p5 p6 p7 p8 (suc (suc (suc (suc (suc (suc (suc zero))))))) t = p7
by_letter P p0 p1 p2 p3 p4 p5 p6 p7 p8 (suc (suc (suc (suc (suc (suc (suc (suc zero)))))))) t = p8
by_letter P p0 p1 p2 p3 p4 p5 p6 p7 p8 (suc (suc (suc (suc (suc (suc (suc (suc (suc n))))))))) t = absurd (omega arith)

-- the unit with these numbers is found by its name
abbrev Found : ℕ → ℕ → Type 0
Found a l = (s : 1 ≤ a) (f : a ≤ 4) (t : l ≤ 8) → unit_named (unit_text (unit_with a l s f t)) ≡ Some (unit_with a l s f t)

found_1 : (l : ℕ) → l ≤ 8 → Found 1 l
unfolding unit_named
found_1 =
    by_letter (Found 1)
    (λ s f t. some_same refl refl)
    (λ s f t. some_same refl refl)
    (λ s f t. some_same refl refl)
    (λ s f t. some_same refl refl)
    (λ s f t. some_same refl refl)
    (λ s f t. some_same refl refl)
    (λ s f t. some_same refl refl)
    (λ s f t. some_same refl refl)
    (λ s f t. some_same refl refl)

found_2 : (l : ℕ) → l ≤ 8 → Found 2 l
unfolding unit_named
found_2 =
    by_letter (Found 2)
    (λ s f t. some_same refl refl)
    (λ s f t. some_same refl refl)
    (λ s f t. some_same refl refl)
    (λ s f t. some_same refl refl)
    (λ s f t. some_same refl refl)
    (λ s f t. some_same refl refl)
    (λ s f t. some_same refl refl)
    (λ s f t. some_same refl refl)
    (λ s f t. some_same refl refl)

found_3 : (l : ℕ) → l ≤ 8 → Found 3 l
unfolding unit_named
found_3 =
    by_letter (Found 3)
    (λ s f t. some_same refl refl)
    (λ s f t. some_same refl refl)
    (λ s f t. some_same refl refl)
    (λ s f t. some_same refl refl)
    (λ s f t. some_same refl refl)
    (λ s f t. some_same refl refl)
    (λ s f t. some_same refl refl)
    (λ s f t. some_same refl refl)
    (λ s f t. some_same refl refl)

found_4 : (l : ℕ) → l ≤ 8 → Found 4 l
unfolding unit_named
found_4 =
    by_letter (Found 4)
    (λ s f t. some_same refl refl)
    (λ s f t. some_same refl refl)
    (λ s f t. some_same refl refl)
    (λ s f t. some_same refl refl)
    (λ s f t. some_same refl refl)
    (λ s f t. some_same refl refl)
    (λ s f t. some_same refl refl)
    (λ s f t. some_same refl refl)
    (λ s f t. some_same refl refl)

found : (a : ℕ) → 1 ≤ a → a ≤ 4 → (l : ℕ) → l ≤ 8 → Found a l
found = by_count (λ a. (l : ℕ) → l ≤ 8 → Found a l) found_1 found_2 found_3 found_4

-- a unit is found by its name
pub unit_found : (u : HashName) → unit_named (unit_text u) ≡ Some u
unit_found u = found u.args u.some_args u.few_args u.letter u.letter_to_h u.some_args u.few_args u.letter_to_h

-- a search finds only what passes the test, and nothing where nothing passes
find_passes : {X : Type 0} (p : X → Bool) (xs : List X) → IfSome (find p xs) (λ x. p x ≡ true)
find_passes p [] = tt
find_passes p (x ∷ xs) = by (p x) refl (find_passes p xs)
  where
    by : (b : Bool) → p x ≡ b → IfSome (find p xs) (λ y. p y ≡ true) → IfSome (cond b (Some x) (find p xs)) (λ y. p y ≡ true)
    by true passes rest = passes
    by false fails rest = rest

find_none : {X : Type 0} (p : X → Bool) (xs : List X) → ((x : X) → p x ≡ false) → find p xs ≡ None
find_none p [] h = refl
find_none p (x ∷ xs) h = ap (λ b. cond b (Some x) (find p xs)) (h x) ∙ find_none p xs h

not_same : (xs ys : List ℕ) → (xs ≡ ys → ⊥) → is_same xs ys ≡ false
not_same xs ys differ = false_from_ne_true (is_same xs ys) (λ e. differ ((bytes_eq-Decides xs ys).0 e))

-- what is found has this name
pub named_back : (text : List ℕ) (u : HashName) → unit_named text ≡ Some u → unit_text u ≡ text
unfolding unit_named
named_back text u e =
    (bytes_eq-Decides (unit_text u) text).0 (subst (λ r. IfSome r (λ unit. is_same (unit_text unit) text ≡ true)) e (find_passes (λ unit. is_same (unit_text unit) text) units))

-- a text that is the name of no unit
pub not_named : (text : List ℕ) → ((u : HashName) → unit_text u ≡ text → ⊥) → unit_named text ≡ None
unfolding unit_named
not_named text none = find_none (λ unit. is_same (unit_text unit) text) units (λ u. not_same (unit_text u) text (none u))

-- a text that starts with `hash` is the name of the unit with its ending
pub named_by_ending : (text ending : List ℕ) → text ≡ codes "hash" ++ ending → (r : Option HashName)
    → IfSome r (λ unit. ending ≡ unit_ending unit) → IfNone r ((unit : HashName) → ending ≡ unit_ending unit → ⊥) → r ≡ unit_named text
named_by_ending text ending e None some none = sym (not_named text (λ u q. none u (append_cancel_left (codes "hash") ending (unit_ending u) (sym e ∙ sym q))))
named_by_ending text ending e (Some u) some none = sym (ap unit_named (e ∙ ap (λ t. codes "hash" ++ t) some) ∙ unit_found u)

-- a text that does not start with `hash` is no name
pub not_named_without : (text : List ℕ) → ((rest : List ℕ) → text ≡ codes "hash" ++ rest → ⊥) → None ≡ unit_named text
not_named_without text other = sym (not_named text (λ u q. other (unit_ending u) (sym q)))
