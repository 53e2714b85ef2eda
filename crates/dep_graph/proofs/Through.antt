-- Reach as a function is reach by walks, and there is one reach alone.
use Rattle.std.proofs.Common.{◌≡◌, ℕ, ◌<◌, Bool, true, false, ◌&&◌, [], ◌∷◌, nat_eq, nat_lt, refl, subst, arith, ⊎_elim, ◌≤◌}
use Rattle.std.specs.Prelude.{zero, suc}
use Rattle.std.proofs.lemmas.Bool.{and_parts, and_from, or_left, or_right, eq-eqb, eqb-true, lt-ltb, ltb-true}
use Rattle.dep_graph.specs.Walk.{IsReach, IsPassed, reaches_through, reaches_among}
use Rattle.dep_graph.proofs.Warshall.{or_parts, passed_all, passed_next}

-- two tests that agree everywhere are one
pub same_test : (r s : ℕ → ℕ → Bool) → ((a b : ℕ) → r a b ≡ s a b) → r ≡ s
same_test r s same = λ i a b. same a b i

module _ (leads : ℕ → ℕ → Bool) where
  first_through : (n : ℕ) → IsPassed leads n 0 (reaches_through leads 0)
  first_through n = record {
    self = λ a an. or_left (nat_eq a a) (leads a a) (eq-eqb a a refl);
    step = λ a b an bn e. or_right (nat_eq a b) (leads a b) e;
    through = λ a c b an ck bn e f. absurd (omega arith);
    walked = λ a b an bn e. ⊎_elim (λ (h : nat_eq a b ≡ true). ([], eqb-true a b h)) (λ (h : leads a b ≡ true). (b ∷ [], (h, refl))) (or_parts (nat_eq a b) (leads a b) e);
  }

  passed_through : (n k : ℕ) → k ≤ n → IsPassed leads n k (reaches_through leads k)
  passed_through n zero h = first_through n
  passed_through n (suc k) h =
      subst (λ (m : ℕ). IsPassed leads n m (reaches_through leads (suc k))) (omega arith)
      (passed_next leads n k (reaches_through leads k) (reaches_through leads (suc k)) (omega arith) (λ a b an bn. refl) (passed_through n k (omega arith)))

  -- what walks say of statements, the function says
  pub reach_through : (n : ℕ) → ((a b : ℕ) → leads a b ≡ true → b < n) → IsReach leads n (reaches_through leads n)
  reach_through n within = passed_all leads n (reaches_through leads n) within (passed_through n n (omega arith))

  pub reach_among : (n : ℕ) → ((a b : ℕ) → leads a b ≡ true → b < n) → IsReach leads n (reaches_among leads n)
  reach_among n within =
      let r = reach_through n within in
      record {
        walked = λ a b an bn e. r.walked a b an bn (and_parts (nat_lt b n) _ (and_parts (nat_lt a n) _ e).1).1;
        reached = λ a b an bn w. and_from _ _ (lt-ltb a n an) (and_from _ _ (lt-ltb b n bn) (r.reached a b an bn w));
      }

  -- two that are reach by walks are the same for statements
  pub same_reach : (n : ℕ) (r s : ℕ → ℕ → Bool) → IsReach leads n r → IsReach leads n s → (a b : ℕ) → a < n → b < n → r a b ≡ s a b
  same_reach n r s is was a b an bn = by_case (r a b) (s a b) refl refl
    where
      by_case : (x y : Bool) → r a b ≡ x → s a b ≡ y → x ≡ y
      by_case true true e f = refl
      by_case false false e f = refl
      by_case true false e f = absurd (let g : s a b ≡ true = was.reached a b an bn (is.walked a b an bn e) in cc (f, g))
      by_case false true e f = absurd (let g : r a b ≡ true = is.reached a b an bn (was.walked a b an bn f) in cc (e, g))

  -- so a reach that is asked of statements alone is the function
  pub reach_is : (n : ℕ) (r : ℕ → ℕ → Bool) → ((a b : ℕ) → leads a b ≡ true → b < n) → IsReach leads n r → (λ a b. nat_lt a n && (nat_lt b n && r a b)) ≡ reaches_among leads n
  reach_is n r within is = same_test _ _ (λ a b. within_both a b (nat_lt a n) (nat_lt b n) refl refl)
    where
      within_both : (a b : ℕ) (x y : Bool) → nat_lt a n ≡ x → nat_lt b n ≡ y → (x && (y && r a b)) ≡ (x && (y && reaches_through leads n a b))
      within_both a b false y e f = refl
      within_both a b true false e f = refl
      within_both a b true true e f = same_reach n r (reaches_through leads n) is (reach_through n within) a b (ltb-true a n e) (ltb-true b n f)
