-- Tests of lists of numbers, and what they say.
use Rattle.std.proofs.Common.{◌≡◌, ℕ, ◌<◌, ◌≢◌, ◌⊎◌, inl, inr, Bool, true, false, not, ◌||◌, List, [], ◌∷◌, ◌++◌, refl, sym, ap, ◌∙◌, subst}
use Rattle.std.specs.Prelude.{nat_lt}
use Rattle.std.specs.List.{flat_map, list_all}
use Rattle.std.proofs.lemmas.Bool.{and_from, and_parts, cases_Bool, cases_lt, lt-ltb, le-ltb, or_left, or_right}
use Rattle.banzai_config.specs.Legal.{are_apart, are_below, are_new, has, is_known}
use Rattle.container_plan.specs.Facts.{IsIn, AreDistinct}
use Rattle.container_plan.proofs.Least.{has_in, hasnt, in_has}
use Rattle.container_plan.proofs.Made.{every_at, every_from, in_append}
use Rattle.container_plan.proofs.Order.{in_left, in_right}

pub all_of : {X : Type 0} (p : X → Bool) (xs : List X) → ((x : X) → IsIn x xs → p x ≡ true) → list_all p xs ≡ true
all_of p [] f = refl
all_of p (x ∷ xs) f = and_from _ _ (f x (inl refl)) (all_of p xs (λ y i. f y (inr i)))

pub of_all : {X : Type 0} (p : X → Bool) (xs : List X) → list_all p xs ≡ true → (x : X) → IsIn x xs → p x ≡ true
of_all p [] e x i = absurd i
of_all p (y ∷ xs) e x (inl is) = ap p is ∙ (and_parts (p y) (list_all p xs) e).0
of_all p (y ∷ xs) e x (inr i) = of_all p xs (and_parts (p y) (list_all p xs) e).1 x i

pub in_flat : {X : Type 0} (f : X → List ℕ) (xs : List X) (x : X) (c : ℕ) → IsIn x xs → IsIn c (f x) → IsIn c (flat_map f xs)
in_flat f [] x c i j = absurd i
in_flat f (y ∷ xs) x c (inl is) j = in_left c (f y) (flat_map f xs) (subst (λ z. IsIn c (f z)) is j)
in_flat f (y ∷ xs) x c (inr i) j = in_right c (f y) (flat_map f xs) (in_flat f xs x c i j)

pub has_not : (c : ℕ) (cs : List ℕ) → (IsIn c cs → ⊥) → has c cs ≡ false
has_not c cs out = elim (cases_Bool (has c cs)) [ inl e ↦ absurd (out (has_in cs c e)) | inr e ↦ e ]

not_true : (b : Bool) → not b ≡ true → b ≡ false
not_true true e = cc
not_true false e = refl

pub below_of : (n : ℕ) (cs : List ℕ) → ((c : ℕ) → IsIn c cs → c < n) → are_below n cs ≡ true
below_of n cs f = all_of (λ c. nat_lt c n) cs (λ c i. lt-ltb c n (f c i))

of_lt : (c n : ℕ) → nat_lt c n ≡ true → c < n
of_lt c n e = elim (cases_lt c n) [ inl h ↦ h | inr h ↦ absurd (let f : nat_lt c n ≡ false = le-ltb c n h in cc) ]

pub of_below : (n : ℕ) (cs : List ℕ) → are_below n cs ≡ true → (c : ℕ) → IsIn c cs → c < n
of_below n cs e c i = of_lt c n (of_all (λ c. nat_lt c n) cs e c i)

pub known_of : (fields : ℕ) (written : List ℕ) (c : ℕ) → (c < fields) ⊎ IsIn c written → is_known fields written c ≡ true
known_of fields written c (inl h) = or_left (nat_lt c fields) (has c written) (lt-ltb c fields h)
known_of fields written c (inr i) = or_right (nat_lt c fields) (has c written) (in_has written c i)

pub of_known : (fields : ℕ) (written : List ℕ) (c : ℕ) → is_known fields written c ≡ true → (c < fields) ⊎ IsIn c written
of_known fields written c e = elim (cases_lt c fields) [
  | inl h ↦ inl h
  | inr h ↦ inr (has_in written c (sym (ap (λ b. b || has c written) (le-ltb c fields h)) ∙ e))
]

pub apart_of : (others cs : List ℕ) → ((c : ℕ) → IsIn c cs → IsIn c others → ⊥) → are_apart others cs ≡ true
apart_of others cs out = all_of (λ c. not (has c others)) cs (λ c i. ap not (has_not c others (out c i)))

-- numbers that differ and are not among the earlier ones are new
pub new_of : (earlier cs : List ℕ) → ((c : ℕ) → IsIn c cs → IsIn c earlier → ⊥) → AreDistinct cs → are_new earlier cs ≡ true
new_of earlier [] none d = refl
new_of earlier (c ∷ cs) none d =
    and_from (not (has c earlier)) (are_new (earlier ++ c ∷ []) cs) (ap not (has_not c earlier (none c (inl refl))))
    (new_of (earlier ++ c ∷ []) cs (λ x i j. elim (in_append x earlier (c ∷ []) j) [
      | inl k ↦ none x (inr i) k
      | inr k ↦ elim k [ inl e ↦ every_at (λ y. c ≢ y) x cs d.0 i (sym e) | inr f ↦ f ]
    ]) d.1)

-- and new ones differ, and are not among the earlier ones
pub of_new : (earlier cs : List ℕ) → are_new earlier cs ≡ true → AreDistinct cs × ((c : ℕ) → IsIn c cs → IsIn c earlier → ⊥)
of_new earlier [] e = (tt, λ c i j. i)
of_new earlier (c ∷ cs) e =
    let first = and_parts (not (has c earlier)) (are_new (earlier ++ c ∷ []) cs) e in
    let rest = of_new (earlier ++ c ∷ []) cs first.1 in (
      (every_from (λ y. c ≢ y) cs (λ y i is. rest.1 y i (in_right y earlier (c ∷ []) (inl (sym is)))), rest.0),
      λ x i j. elim i [
        | inl is ↦ hasnt earlier c (not_true (has c earlier) first.0) (subst (λ z. IsIn z earlier) is j)
        | inr k ↦ rest.1 x k (in_left x earlier (c ∷ []) j)
      ],
    )
