-- A history has its newest item first, as the registers have the packets in flight.
use Rattle.std.proofs.Common.{◌≡◌, ◌+◌, List, [], ◌∷◌, ◌++◌, refl, sym, ◌∙◌, ap as eq_of, length, arith, append_assoc}

-- the items of es, in order, put before a history that has its newest item first
abbrev pub onto : {X : Type 0} → List X → List X → List X
onto [] h = h
onto (e ∷ es) h = onto es (e ∷ h)

pub onto-append : {X : Type 0} (q h : List X) → onto q h ≡ onto q [] ++ h
onto-append [] h = refl
onto-append (x ∷ q) h = onto-append q (x ∷ h) ∙ sym (eq_of (λ z. z ++ h) (onto-append q (x ∷ [])) ∙ append_assoc (onto q []) (x ∷ []) h)

pub length-onto : {X : Type 0} (q h : List X) → length (onto q h) ≡ length q + length h
length-onto [] h = omega arith
length-onto (x ∷ q) h = omega (arith, length-onto q (x ∷ h))

pub onto-snoc : {X : Type 0} (q : List X) (e : X) (h : List X) → onto (q ++ e ∷ []) h ≡ e ∷ onto q h
onto-snoc [] e h = refl
onto-snoc (x ∷ q) e h = onto-snoc q e (x ∷ h)

pub onto-join : {X : Type 0} (xs ys h : List X) → onto (xs ++ ys) h ≡ onto ys (onto xs h)
onto-join [] ys h = refl
onto-join (x ∷ xs) ys h = onto-join xs ys (x ∷ h)
