-- Taking one statement more as the middle of walks.
use Rattle.std.proofs.Common.{◌≡◌, ℕ, ◌+◌, ◌<◌, Bool, true, false, ◌&&◌, List, [], ◌∷◌, ◌++◌, refl, sym, ◌∙◌, subst, arith, ◌⊎◌, inl, inr, ⊎_elim}
use Rattle.std.specs.Prelude.{◌||◌}
use Rattle.std.proofs.lemmas.Bool.{and_parts, and_from, cases_lt}
use Rattle.dep_graph.specs.Walk.{IsWalk, Reaches, IsReach, IsPassed}

pub or_parts : (x y : Bool) → (x || y) ≡ true → (x ≡ true) ⊎ (y ≡ true)
or_parts true y e = inl refl
or_parts false y e = inr e

or_left : (x y : Bool) → x ≡ true → (x || y) ≡ true
or_left true y e = refl
or_left false y e = absurd (cc)

or_right : (x y : Bool) → y ≡ true → (x || y) ≡ true
or_right true y e = refl
or_right false y e = e

module _ (leads : ℕ → ℕ → Bool) where
  pub walk_join : (a b c : ℕ) (p q : List ℕ) → IsWalk leads a p b → IsWalk leads b q c → IsWalk leads a (p ++ q) c
  walk_join a b c [] q w v = subst (λ x. IsWalk leads x q c) (sym w) v
  walk_join a b c (x ∷ p) q w v = (w.0, walk_join x b c p q w.1 v)

  pub reach_join : (a b c : ℕ) → Reaches leads a b → Reaches leads b c → Reaches leads a c
  reach_join a b c r s = (r.0 ++ s.0, walk_join a b c r.0 s.0 r.1 s.1)

  pub passed_next : (n k : ℕ) (R S : ℕ → ℕ → Bool) → k < n → ((a b : ℕ) → a < n → b < n → S a b ≡ (R a b || (R a k && R k b))) → IsPassed leads n k R → IsPassed leads n (k + 1) S
  passed_next n k R S kn is p = record {
    self = λ a an. old a a an an (p.self a an);
    step = λ a b an bn e. old a b an bn (p.step a b an bn e);
    through = λ a c b an ck bn e f. ⊎_elim (λ lt. below a c b an lt bn (parts a c an (less c lt) e) (parts c b (less c lt) bn f)) (λ le. let at : c ≡ k = omega arith in here a b an bn (parts a k an kn (subst (λ x. S a x ≡ true) at e)) (parts k b kn bn (subst (λ x. S x b ≡ true) at f))) (cases_lt c k);
    walked = λ a b an bn e. ⊎_elim (λ r. p.walked a b an bn r) (λ (m : (R a k ≡ true) × (R k b ≡ true)). reach_join a k b (p.walked a k an kn m.0) (p.walked k b kn bn m.1)) (parts a b an bn e);
  }
    where
      less : (c : ℕ) → c < k → c < n
      less c h = omega arith

      old : (a b : ℕ) → a < n → b < n → R a b ≡ true → S a b ≡ true
      old a b an bn e = is a b an bn ∙ or_left (R a b) (R a k && R k b) e

      by_middle : (a b : ℕ) → a < n → b < n → R a k ≡ true → R k b ≡ true → S a b ≡ true
      by_middle a b an bn e f = is a b an bn ∙ or_right (R a b) (R a k && R k b) (and_from _ _ e f)

      parts : (a b : ℕ) → a < n → b < n → S a b ≡ true → (R a b ≡ true) ⊎ ((R a k ≡ true) × (R k b ≡ true))
      parts a b an bn e = elim (or_parts (R a b) (R a k && R k b) (sym (is a b an bn) ∙ e)) [ inl h ↦ inl h | inr h ↦ inr (and_parts _ _ h) ]

      below : (a c b : ℕ) → a < n → c < k → b < n → (R a c ≡ true) ⊎ ((R a k ≡ true) × (R k c ≡ true)) → (R c b ≡ true) ⊎ ((R c k ≡ true) × (R k b ≡ true)) → S a b ≡ true
      below a c b an ck bn (inl e) (inl f) = old a b an bn (p.through a c b an ck bn e f)
      below a c b an ck bn (inl e) (inr f) = by_middle a b an bn (p.through a c k an ck kn e f.0) f.1
      below a c b an ck bn (inr e) (inl f) = by_middle a b an bn e.0 (p.through k c b kn ck bn e.1 f)
      below a c b an ck bn (inr e) (inr f) = by_middle a b an bn e.0 f.1

      here : (a b : ℕ) → a < n → b < n → (R a k ≡ true) ⊎ ((R a k ≡ true) × (R k k ≡ true)) → (R k b ≡ true) ⊎ ((R k k ≡ true) × (R k b ≡ true)) → S a b ≡ true
      here a b an bn (inl e) (inl f) = by_middle a b an bn e f
      here a b an bn (inl e) (inr f) = by_middle a b an bn e f.1
      here a b an bn (inr e) (inl f) = by_middle a b an bn e.0 f
      here a b an bn (inr e) (inr f) = by_middle a b an bn e.0 f.1

  -- at the end it is reach; statements lead to statements alone
  pub passed_all : (n : ℕ) (R : ℕ → ℕ → Bool) → ((a b : ℕ) → leads a b ≡ true → b < n) → IsPassed leads n n R → IsReach leads n R
  passed_all n R within p = record {
    walked = p.walked;
    reached = λ a b an bn r. along r.0 a b an bn r.1;
  }
    where
      along : (rest : List ℕ) (a b : ℕ) → a < n → b < n → IsWalk leads a rest b → R a b ≡ true
      along [] a b an bn w = subst (λ x. R a x ≡ true) w (p.self a an)
      along (c ∷ rest) a b an bn w = let cn = within a c w.0 in p.through a c b an cn bn (p.step a c an cn w.0) (along rest c b cn bn w.1)
