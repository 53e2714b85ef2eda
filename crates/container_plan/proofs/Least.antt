-- The least number that a list does not have.
use Rattle.std.proofs.Common.{◌≡◌, ℕ, zero, suc, ◌+◌, ◌<◌, ◌≤◌, ◌≢◌, inl, inr, Bool, true, false, nat_eq, List, [], ◌∷◌, length, refl, sym, ap, ◌∙◌, subst, arith, if◌then◌else◌}
use Rattle.std.proofs.lemmas.Bool.{cases_eq, cases_lt, eq-eqb, eqb-true}
use Rattle.std.specs.List.{AllByRecursion as Every}
use Rattle.container_plan.specs.Facts.{IsIn, AreDistinct}
use Rattle.banzai_config.specs.Legal.{has}
use Rattle.container_plan.specs.Spans.{free_from, least_free}

pub has_in : (cs : List ℕ) (c : ℕ) → has c cs ≡ true → IsIn c cs
has_in [] c e = absurd (cc)
has_in (d ∷ cs) c e = by_case (nat_eq c d) refl e (has_in cs c)
  where
    by_case : (b : Bool) → nat_eq c d ≡ b → has c (d ∷ cs) ≡ true → (has c cs ≡ true → IsIn c cs) → IsIn c (d ∷ cs)
    by_case true t e rest = inl (eqb-true c d t)
    by_case false t e rest = inr (rest (rw t at e))

pub in_has : (cs : List ℕ) (c : ℕ) → IsIn c cs → has c cs ≡ true
in_has [] c i = absurd i
in_has (d ∷ cs) c (inl is) = rw (eq-eqb c d is) refl
in_has (d ∷ cs) c (inr i) = by_case (nat_eq c d) refl (in_has cs c i)
  where
    by_case : (b : Bool) → nat_eq c d ≡ b → has c cs ≡ true → has c (d ∷ cs) ≡ true
    by_case true t e = rw t refl
    by_case false t e = rw t e

pub hasnt : (cs : List ℕ) (c : ℕ) → has c cs ≡ false → IsIn c cs → ⊥
hasnt cs c e i = let h : has c cs ≡ true = in_has cs c i in cc

-- a list without one number
abbrev without : ℕ → List ℕ → List ℕ
without c [] = []
without c (d ∷ cs) = if nat_eq c d then cs else d ∷ without c cs

length-without : (c : ℕ) (cs : List ℕ) → IsIn c cs → length cs ≡ suc (length (without c cs))
length-without c [] i = absurd i
length-without c (d ∷ cs) i = by_case (nat_eq c d) refl i (length-without c cs)
  where
    by_case : (b : Bool) → nat_eq c d ≡ b → IsIn c (d ∷ cs) → (IsIn c cs → length cs ≡ suc (length (without c cs))) → suc (length cs) ≡ suc (length (if b then cs else d ∷ without c cs))
    by_case true t j rest = refl
    by_case false t (inl is) rest = absurd (let h : nat_eq c d ≡ true = eq-eqb c d is in cc)
    by_case false t (inr j) rest = ap (λ n. suc n) (rest j)

in_without : (c e : ℕ) (cs : List ℕ) → e ≢ c → IsIn e cs → IsIn e (without c cs)
in_without c e [] ne i = absurd i
in_without c e (d ∷ cs) ne i = by_case (nat_eq c d) refl i (in_without c e cs ne)
  where
    by_case : (b : Bool) → nat_eq c d ≡ b → IsIn e (d ∷ cs) → (IsIn e cs → IsIn e (without c cs)) → IsIn e (if b then cs else d ∷ without c cs)
    by_case true t (inl is) rest = absurd (ne (is ∙ sym (eqb-true c d t)))
    by_case true t (inr j) rest = j
    by_case false t (inl is) rest = inl is
    by_case false t (inr j) rest = inr (rest j)

-- numbers that are all in a list are no more than its elements
pub few_in : (n : ℕ) (cs : List ℕ) → ((c : ℕ) → c < n → IsIn c cs) → n ≤ length cs
few_in zero cs all = omega arith
few_in (suc n) cs all =
    let here : IsIn n cs = all n (omega arith) in
    let rest : n ≤ length (without n cs) = few_in n (without n cs) (λ c h. let ne : c ≢ n = omega arith in in_without n c cs ne (all c (omega arith))) in
    let long : length cs ≡ suc (length (without n cs)) = length-without n cs here in
    omega arith

-- distinct numbers that are all in a list are no more than its elements
pub few_distinct : (xs cs : List ℕ) → AreDistinct xs → Every (λ x. IsIn x cs) xs → length xs ≤ length cs
few_distinct [] cs distinct all = omega arith
few_distinct (x ∷ xs) cs distinct all =
    let rest : length xs ≤ length (without x cs) = few_distinct xs (without x cs) distinct.1 (kept xs distinct.0 all.1) in
    let long : length cs ≡ suc (length (without x cs)) = length-without x cs all.0 in
    omega arith
  where
    kept : (ys : List ℕ) → Every (λ y. x ≢ y) ys → Every (λ y. IsIn y cs) ys → Every (λ y. IsIn y (without x cs)) ys
    kept [] p q = tt
    kept (y ∷ ys) p q = (in_without x y cs (λ e. p.0 (sym e)) q.0, kept ys p.1 q.1)

-- what a search from c on finds within n steps
record IsFound (n : ℕ) (cs : List ℕ) (c found : ℕ) : Type 0 where
  pub below : (d : ℕ) → c ≤ d → d < found → IsIn d cs
  pub low : c ≤ found
  pub high : found ≤ c + n
  pub free : found < c + n → IsIn found cs → ⊥

found_from : (n : ℕ) (cs : List ℕ) (c : ℕ) → IsFound n cs c (free_from n cs c)
found_from zero cs c = record { below = λ d lo hi. absurd (omega arith); low = omega arith; high = omega arith; free = λ less i. absurd (omega arith) }
found_from (suc n) cs c = by_case (has c cs) refl (found_from n cs (suc c))
  where
    by_case : (b : Bool) → has c cs ≡ b → IsFound n cs (suc c) (free_from n cs (suc c)) → IsFound (suc n) cs c (if b then free_from n cs (suc c) else c)
    by_case true t rest = record {
      below = λ d lo hi. elim (cases_eq c d) [
        | inl is ↦ subst (λ z. IsIn z cs) is (has_in cs c t)
        | inr ne ↦ rest.below d (omega arith) hi
      ];
      low = omega (arith, rest.low);
      high = omega (arith, rest.high);
      free = λ less. rest.free (omega arith);
    }
    by_case false t rest = record { below = λ d lo hi. absurd (omega arith); low = omega arith; high = omega arith; free = λ less. hasnt cs c t }

-- all numbers below it are in the list, it is not, and it is at most the list's length
pub record IsLeastFree (cs : List ℕ) (found : ℕ) : Type 0 where
  pub below : (d : ℕ) → d < found → IsIn d cs
  pub free : IsIn found cs → ⊥
  pub few : found ≤ length cs

pub least_free_is : (cs : List ℕ) → IsLeastFree cs (least_free cs)
least_free_is cs =
    let f : IsFound (length cs) cs 0 (least_free cs) = found_from (length cs) cs 0 in
    record {
      below = λ d h. f.below d (omega arith) h;
      free = λ i. elim (cases_lt (least_free cs) (length cs)) [
        | inl less ↦ f.free (omega arith) i
        | inr more ↦
            let high : least_free cs ≤ 0 + length cs = f.high in
            let all : (c : ℕ) → c < suc (least_free cs) → IsIn c cs = λ c h. elim (cases_eq c (least_free cs)) [ inl is ↦ subst (λ z. IsIn z cs) (sym is) i | inr ne ↦ f.below c (omega arith) (omega arith) ] in
            let many : suc (least_free cs) ≤ length cs = few_in (suc (least_free cs)) cs all in
            absurd (omega arith)
      ];
      few = omega (arith, f.high);
    }

-- there is one such number
pub least_free_one : (cs : List ℕ) (c : ℕ) → ((d : ℕ) → d < c → IsIn d cs) → (IsIn c cs → ⊥) → least_free cs ≡ c
least_free_one cs c below free = elim (cases_lt (least_free cs) c) [
  | inl less ↦ absurd ((least_free_is cs).free (below (least_free cs) less))
  | inr more ↦ elim (cases_eq (least_free cs) c) [ inl is ↦ is | inr ne ↦ absurd (free ((least_free_is cs).below c (omega arith))) ]
]
