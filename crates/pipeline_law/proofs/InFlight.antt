-- The packets in flight: at each moment every register, and every stage's part of the state, are what they would be with nothing else in flight.
use Rattle.std.proofs.Common.{◌≡◌, List, [], ◌∷◌, ◌++◌, refl, sym, ◌∙◌, ap as eq_of, take, length, get_or, arith}
use Rattle.std.specs.Bool.{⊤}
use Rattle.std.specs.List.{AllByRecursion}
use Rattle.pipeline_law.specs.Stage.{through, results, Leaves, AreApart, Clocked}

module _ {A X S V : Type 0} (run : S → A → X → A × X) (own : S → A → V) where
  -- stages that leave s's part leave it one after another
  pub own-through : (s : S) (ss : List S) (a : A) (x : X) → AllByRecursion (λ t. Leaves run own t s) ss → own s (through run ss a x).0 ≡ own s a
  own-through s [] a x h = refl
  own-through s (t ∷ ss) a x h = own-through s ss (run t a x).0 (run t a x).1 h.1 ∙ h.0 a x

  -- the part of a premise that says who leaves s
  pub left_by : (s : S) (ss : List S) → AllByRecursion (λ t. Leaves run own s t × Leaves run own t s) ss → AllByRecursion (λ t. Leaves run own t s) ss
  left_by s [] h = tt
  left_by s (t ∷ ss) h = (h.0.1, left_by s ss h.1)

-- The stages ss stand behind g, the stages before them. past h: the state after a history, each alone.
-- Register by register: it holds what its item is in through of its stage, and the stage's part is that after the items before it.
module _ {A X S V : Type 0} (run : S → A → X → A × X) (own : S → A → V) (past : List X → A) where
  abbrev pub Holds : (A → X → A × X) → List S → List X → A → List X → Type 0
  Holds g [] rs a h = ⊤
  Holds g (s ∷ ss) [] a h = ⊥
  Holds g (s ∷ ss) (r ∷ rs) a [] = ⊥
  Holds g (s ∷ ss) (r ∷ rs) a (x ∷ h) =
      (r ≡ (g (past h) x).1) × (own s a ≡ own s (past h)) × Holds (λ b y. run s (g b y).0 (g b y).1) ss rs a h

  -- the same, with one register more, that behind the last stage
  abbrev pub Fills : (A → X → A × X) → List S → List X → A → List X → Type 0
  Fills g ss [] a h = ⊥
  Fills g ss (r ∷ rs) a [] = ⊥
  Fills g [] (r ∷ rs) a (x ∷ h) = r ≡ (g (past h) x).1
  Fills g (s ∷ ss) (r ∷ rs) a (x ∷ h) =
      (r ≡ (g (past h) x).1) × (own s a ≡ own s (past h)) × Fills (λ b y. run s (g b y).0 (g b y).1) ss rs a h

  -- g leaves the part of each of the stages
  abbrev pub Spares : (A → X → A × X) → List S → Type 0
  Spares g ss = AllByRecursion (λ s. (b : A) (y : X) → own s (g b y).0 ≡ own s b) ss

  pub spares_more : (g : A → X → A × X) (s : S) (ss : List S)
      → Spares g ss → AllByRecursion (λ t. Leaves run own s t × Leaves run own t s) ss → Spares (λ b y. run s (g b y).0 (g b y).1) ss
  spares_more g s [] p q = tt
  spares_more g s (t ∷ ss) p q = ((λ b y. q.0.0 (g b y).0 (g b y).1 ∙ p.0 b y), spares_more g s ss p.1 q.1)

  -- one cycle: every stage takes the register before it, from the old state
  pub cycle_holds : (g : A → X → A × X) (ss : List S) (rs : List X) (old new : A) (e y : X) (h : List X)
      → AreApart run own ss → Spares g ss
      → ((x : X) (k : List X) → past (x ∷ k) ≡ (through run ss (g (past k) x).0 (g (past k) x).1).0)
      → Holds g ss rs old h → Clocked run own ss rs old new → e ≡ (g (past h) y).1
      → Fills g ss (e ∷ results run ss rs old) new (y ∷ h)
  cycle_holds g [] rs old new e y h ap sp pass ho mo is = is
  cycle_holds g (s ∷ ss) [] old new e y h ap sp pass ho mo is = absurd ho
  cycle_holds g (s ∷ ss) (r ∷ rs) old new e y [] ap sp pass ho mo is = absurd ho
  cycle_holds g (s ∷ ss) (r ∷ rs) old new e y (x ∷ h) ap sp pass ho mo is =
      let g' : A → X → A × X = λ b z. run s (g b z).0 (g b z).1 in
      let mine : own s old ≡ own s (g (past h) x).0 = ho.1 ∙ sym (sp.0 (past h) x) in
      let out : (run s old r).1 ≡ (g' (past h) x).1 =
      ap.0.out old (g (past h) x).0 r mine ∙ eq_of (λ z. (run s (g (past h) x).0 z).1) ho.0 in
      let kept : own s new ≡ own s (past (x ∷ h)) =
      mo.0 ∙ ap.0.kept old (g (past h) x).0 r mine ∙ eq_of (λ z. own s (run s (g (past h) x).0 z).0) ho.0
      ∙ sym (own-through run own s ss (g' (past h) x).0 (g' (past h) x).1 (left_by run own s ss ap.1))
      ∙ eq_of (own s) (sym (pass x h)) in
      (is, kept, cycle_holds g' ss rs old new (run s old r).1 x h ap.2 (spares_more g s ss sp.1 ap.1) pass ho.2 mo.1 out)

-- Fills says of the first registers what Holds says
module _ {A X S V : Type 0} (run : S → A → X → A × X) (own : S → A → V) (past : List X → A) where
  pub fills_holds : (g : A → X → A × X) (ss : List S) (rs : List X) (a : A) (h : List X)
      → Fills run own past g ss rs a h → Holds run own past g ss (take (length ss) rs) a h
  fills_holds g [] rs a h p = tt
  fills_holds g (s ∷ ss) [] a h p = p
  fills_holds g (s ∷ ss) (r ∷ rs) a [] p = p
  fills_holds g (s ∷ ss) (r ∷ rs) a (x ∷ h) p = (p.0, p.1, fills_holds (λ b y. run s (g b y).0 (g b y).1) ss rs a h p.2)

  -- and the register behind the last stage has what came out
  pub fills_last : (g : A → X → A × X) (ss : List S) (rs : List X) (a : A) (k : List X) (x : X) (h : List X) (d : X)
      → length k ≡ length ss
      → Fills run own past g ss rs a (k ++ x ∷ h)
      → get_or rs (length ss) d ≡ (through run ss (g (past h) x).0 (g (past h) x).1).1
  fills_last g [] [] a k x h d e p = absurd p
  fills_last g [] (r ∷ rs) a [] x h d e p = p
  fills_last g [] (r ∷ rs) a (y ∷ k) x h d e p = absurd (omega (arith, e))
  fills_last g (s ∷ ss) [] a k x h d e p = absurd p
  fills_last g (s ∷ ss) (r ∷ rs) a [] x h d e p = absurd (omega (arith, e))
  fills_last g (s ∷ ss) (r ∷ rs) a (y ∷ k) x h d e p =
      let same : length k ≡ length ss = omega (arith, e) in
      fills_last (λ b z. run s (g b z).0 (g b z).1) ss rs a k x h d same p.2
