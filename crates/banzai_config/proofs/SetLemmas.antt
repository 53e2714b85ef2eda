-- Sets of numbers as marks.
use Rattle.std.proofs.Common.{◌≡◌, ℕ, ◌<◌, ◌⊎◌, inl, inr, Bool, true, false, ◌||◌, eqb, List, [], ◌∷◌, length, get_or, refl, sym, ap, subst, ◌∙◌, arith}
use Rattle.std.proofs.lemmas.Bool.{and_from, cases_lt, eq-eqb, lt-ltb, or_left, or_right, false≢true}
use Rattle.std.proofs.lemmas.List.{get_or_past}
use Rattle.banzai_config.specs.Legal.{are_below, has}

pub has_first : (c : ℕ) (cs : List ℕ) → has c (c ∷ cs) ≡ true
has_first c cs = or_left (eqb c c) (has c cs) (eq-eqb c c refl)

pub has_more : (c x : ℕ) (cs : List ℕ) → has c cs ≡ true → has c (x ∷ cs) ≡ true
has_more c x cs h = or_right (eqb c x) (has c cs) h

-- what is marked is below the number of marks
marked_below : (marks : List Bool) (c : ℕ) → get_or marks c false ≡ true → c < length marks
marked_below marks c h = elim (cases_lt c (length marks)) [ inl less ↦ less | inr past ↦ absurd (false≢true (sym (get_or_past marks c false past) ∙ h)) ]

-- numbers that are marked are below the number of marks
pub all_below : (marks : List Bool) (numbers : List ℕ) → ((c : ℕ) → has c numbers ≡ true → get_or marks c false ≡ true) → are_below (length marks) numbers ≡ true
all_below marks [] marked = refl
all_below marks (x ∷ xs) marked =
    and_from _ _ (lt-ltb x (length marks) (marked_below marks x (marked x (has_first x xs)))) (all_below marks xs (λ c h. marked c (has_more c x xs h)))
