-- The greatest of some numbers.
use Rattle.std.proofs.Common.{◌≡◌, ℕ, zero, suc, ◌+◌, ◌≤◌, ◌<◌, ◌⊎◌, inl, inr, List, [], ◌∷◌, ◌++◌, length, map, get_or, take, max, refl, sym, ap, ◌∙◌, arith}
use Rattle.std.proofs.lemmas.List.{take_more}
use Rattle.std.proofs.lemmas.Bool.{cases_lt}
use Rattle.std.specs.List.{All, Contains}
use Rattle.codelets.specs.Lists.{max_of}

pub greatest_same : (f g : ℕ → ℕ) (us : List ℕ) → All (λ u. f u ≡ g u) us → max_of (map f us) ≡ max_of (map g us)
greatest_same f g [] h = refl
greatest_same f g (u ∷ us) h =
    let e : f u ≡ g u = h 0 0 (omega arith) in
    ap (λ n. max n (max_of (map f us))) e ∙ ap (max (g u)) (greatest_same f g us (λ k d l. h (suc k) d (omega arith)))

pub greatest_all : (ns : List ℕ) (k : ℕ) → get_or ns k 0 ≤ max_of ns
greatest_all [] k = omega arith
greatest_all (n ∷ ns) zero = omega arith
greatest_all (n ∷ ns) (suc k) = let h = greatest_all ns k in omega arith

pub greatest_bound : (f : ℕ → ℕ) (d : ℕ) → ((u : ℕ) → f u ≤ d) → (us : List ℕ) → max_of (map f us) ≤ d
greatest_bound f d h [] = omega arith
greatest_bound f d h (u ∷ us) = let b = h u in let more = greatest_bound f d h us in omega arith

-- the greatest is one of the values, or there is none
pub attained : (f : ℕ → ℕ) (us : List ℕ) → (max_of (map f us) ≡ 0) ⊎ ((u : ℕ) × (Contains us u × (max_of (map f us) ≡ f u)))
attained f [] = inl refl
attained f (u ∷ us) = from (attained f us) (cases_lt (max_of (map f us)) (f u))
  where
    from : ((max_of (map f us) ≡ 0) ⊎ ((v : ℕ) × (Contains us v × (max_of (map f us) ≡ f v)))) → (max_of (map f us) < f u) ⊎ (f u ≤ max_of (map f us)) → (max (f u) (max_of (map f us)) ≡ 0) ⊎ ((v : ℕ) × (Contains (u ∷ us) v × (max (f u) (max_of (map f us)) ≡ f v)))
    from (inl e) o = inr (u, ((0, omega arith, refl), omega arith))
    from (inr (v, (k, g))) (inl h) = inr (u, ((0, omega arith, refl), omega arith))
    from (inr (v, ((k, h, e), g))) (inr le) = inr (v, ((suc k, omega arith, e), omega arith))

greatest_push : (f : ℕ → ℕ) (us : List ℕ) (u : ℕ) → max_of (map f (us ++ u ∷ [])) ≡ max (max_of (map f us)) (f u)
greatest_push f [] u = omega arith
greatest_push f (v ∷ us) u = let e = greatest_push f us u in omega arith

pub greatest_more : (f : ℕ → ℕ) (us : List ℕ) (i d : ℕ) → i < length us → max_of (map f (take (i + 1) us)) ≡ max (max_of (map f (take i us))) (f (get_or us i d))
greatest_more f us i d h = ap (λ (l : List ℕ). max_of (map f l)) (take_more us i d h) ∙ greatest_push f (take i us) (get_or us i d)

-- one round of a loop that takes the greatest
pub last_more : (f : ℕ → ℕ) (us : List ℕ) (i last new : ℕ) → i < length us → last ≡ max_of (map f (take i us)) → new ≡ max last (f (get_or us i 0)) → new ≡ max_of (map f (take (i + 1) us))
last_more f us i last new h e n = n ∙ ap (λ m. max m (f (get_or us i 0))) e ∙ sym (greatest_more f us i 0 h)
