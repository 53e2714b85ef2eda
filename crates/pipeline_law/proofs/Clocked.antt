-- Over a list of entries the pipeline keeps in flight, and lets out, what each item makes alone.
use Rattle.std.proofs.Common.{◌≡◌, ◌<◌, List, [], ◌∷◌, ◌++◌, refl, ap as eq_of, take, length, get_or, arith, append_assoc, length-append}
use Rattle.pipeline_law.specs.Stage.{through, state_alone, items_alone, results, AreApart, IsClock}
use Rattle.pipeline_law.specs.Pipeline.{Row, cycled, leaving, piped, left}
use Rattle.pipeline_law.proofs.History.{onto, onto-append, length-onto, onto-snoc}
use Rattle.pipeline_law.proofs.InFlight.{Holds, Fills, Spares, cycle_holds, fills_holds, fills_last}

-- a run over some entries and then over others
module _ {A X S : Type 0} (run : S → A → X → A × X) (clock : List S → List X → A → A) (ss : List S) where
  pub piped-append : (p : Row A X) (xs ys : List X) → piped run clock ss p (xs ++ ys) ≡ piped run clock ss (piped run clock ss p xs) ys
  piped-append p [] ys = refl
  piped-append p (x ∷ xs) ys = piped-append (cycled run clock ss p x) xs ys

  pub left-append : (p : Row A X) (xs ys : List X) → left run clock ss p (xs ++ ys) ≡ left run clock ss p xs ++ left run clock ss (piped run clock ss p xs) ys
  left-append p [] ys = refl
  left-append p (x ∷ xs) ys = eq_of (λ z. leaving run clock ss p x ∷ z) (left-append (cycled run clock ss p x) xs ys)

  pub length-left : (p : Row A X) (xs : List X) → length (left run clock ss p xs) ≡ length xs
  length-left p [] = refl
  length-left p (x ∷ xs) = omega (arith, length-left (cycled run clock ss p x) xs)

module _ {A X S V : Type 0} (run : S → A → X → A × X) (own : S → A → V) (clock : List S → List X → A → A) (ss : List S) (start : A) (idle : X) where
  -- the state after a history that has its newest item first
  abbrev pub past : List X → A
  past [] = start
  past (x ∷ h) = (through run ss (past h) x).0

  abbrev pub here : A → X → A × X
  here a x = (a, x)

  -- the row holds what this history leaves
  abbrev pub Stands : Row A X → List X → Type 0
  Stands p h = Holds run own past here ss p.registers p.state h

  spares_here : (ts : List S) → Spares run own past here ts
  spares_here [] = tt
  spares_here (t ∷ ts) = ((λ b y. refl), spares_here ts)

  -- the registers and what leaves, after one cycle
  cycle_fills : (p : Row A X) (e : X) (h : List X) → AreApart run own ss → IsClock run own clock ss → Stands p h
      → Fills run own past here ss (e ∷ results run ss p.registers p.state) (clock ss p.registers p.state) (e ∷ h)
  cycle_fills p e h apart acts st =
      cycle_holds run own past here ss p.registers p.state (clock ss p.registers p.state) e e h apart (spares_here ss) (λ x k. refl) st (acts p.registers p.state) refl

  pub cycled_stands : (p : Row A X) (e : X) (h : List X) → AreApart run own ss → IsClock run own clock ss → Stands p h → Stands (cycled run clock ss p e) (e ∷ h)
  cycled_stands p e h apart acts st = fills_holds run own past here ss _ _ (e ∷ h) (cycle_fills p e h apart acts st)

  pub piped_stands : (p : Row A X) (es h : List X) → AreApart run own ss → IsClock run own clock ss → Stands p h → Stands (piped run clock ss p es) (onto es h)
  piped_stands p [] h apart acts st = st
  piped_stands p (e ∷ es) h apart acts st = piped_stands (cycled run clock ss p e) es (e ∷ h) apart acts (cycled_stands p e h apart acts st)

  pub past-onto : (es h : List X) → past (onto es h) ≡ state_alone run ss (past h) es
  past-onto [] h = refl
  past-onto (e ∷ es) h = past-onto es (e ∷ h)

  -- what leaves is the oldest item in flight
  leaving_is : (p : Row A X) (e x : X) (k h : List X) → AreApart run own ss → IsClock run own clock ss → Fills run own past here ss (e ∷ results run ss p.registers p.state) (clock ss p.registers p.state) (k ++ x ∷ h)
      → length k ≡ length ss → leaving run clock ss p e ≡ (through run ss (past h) x).1
  leaving_is p e x k h apart acts fi long = fills_last run own past here ss (e ∷ results run ss p.registers p.state) (clock ss p.registers p.state) k x h e long fi

  -- with the items q in flight, oldest first, on a history h: what leaves over es are the items of q and es, as many as there are cycles, each as it is alone
  pub left_is : (p : Row A X) (es q h : List X) → AreApart run own ss → IsClock run own clock ss → Stands p (onto q h) → length q ≡ length ss
      → left run clock ss p es ≡ items_alone run ss (past h) (take (length es) (q ++ es))
  left_is p [] q h apart acts st long = refl
  left_is p (e ∷ es) [] h apart acts st long =
      let now : leaving run clock ss p e ≡ (through run ss (past h) e).1 = leaving_is p e e [] h apart acts (cycle_fills p e h apart acts st) long in
      let rest : left run clock ss (cycled run clock ss p e) es ≡ items_alone run ss (past (e ∷ h)) (take (length es) es) =
      left_is (cycled run clock ss p e) es [] (e ∷ h) apart acts (cycled_stands p e h apart acts st) long in
      cc
  left_is p (e ∷ es) (x ∷ q) h apart acts st long =
      let split : onto q (x ∷ h) ≡ onto q [] ++ x ∷ h = onto-append q (x ∷ h) in
      let size : length (e ∷ onto q []) ≡ length ss = omega (arith, length-onto q [], long) in
      let now : leaving run clock ss p e ≡ (through run ss (past h) x).1 =
      leaving_is p e x (e ∷ onto q []) h apart acts (rw (← split) (cycle_fills p e (onto q (x ∷ h)) apart acts st)) size in
      let stands : Stands (cycled run clock ss p e) (onto (q ++ e ∷ []) (x ∷ h)) = rw (onto-snoc q e (x ∷ h)) (cycled_stands p e (onto q (x ∷ h)) apart acts st) in
      let size' : length (q ++ e ∷ []) ≡ length ss = omega (arith, length-append q (e ∷ []), long) in
      let rest : left run clock ss (cycled run clock ss p e) es ≡ items_alone run ss (past (x ∷ h)) (take (length es) ((q ++ e ∷ []) ++ es)) =
      left_is (cycled run clock ss p e) es (q ++ e ∷ []) (x ∷ h) apart acts stands size' in
      let regroup : (q ++ e ∷ []) ++ es ≡ q ++ e ∷ es = append_assoc q (e ∷ []) es in
      cc

module _ {A X S V : Type 0} (run : S → A → X → A × X) (own : S → A → V) (past : List X → A) where
  -- register k and the part of the stage behind it, in words of the item that came k items before the newest
  pub holds_at : (g : A → X → A × X) (ss : List S) (rs : List X) (a : A) (k : List X) (x : X) (h : List X) (d : X) (s : S)
      → length k < length ss → Holds run own past g ss rs a (k ++ x ∷ h)
      → (get_or rs (length k) d ≡ (through run (take (length k) ss) (g (past h) x).0 (g (past h) x).1).1)
      × (own (get_or ss (length k) s) a ≡ own (get_or ss (length k) s) (past h))
  holds_at g [] rs a k x h d s lt p = absurd (omega arith)
  holds_at g (t ∷ ss) [] a k x h d s lt p = absurd p
  holds_at g (t ∷ ss) (r ∷ rs) a [] x h d s lt p = (p.0, p.1)
  holds_at g (t ∷ ss) (r ∷ rs) a (y ∷ k) x h d s lt p =
      let less : length k < length ss = omega arith in
      holds_at (λ b z. run t (g b z).0 (g b z).1) ss rs a k x h d s less p.2
