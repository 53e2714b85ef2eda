-- The stages of a feed-forward pipeline. They share one state, and each of them acts on its own part of it.
-- A: the state of all stages. X: an item, a packet or the idle item. S: a stage. V: what one stage owns of the state.
-- run s a x: from the state a and the item x, the stage's new state and the item that it passes on.
use Rattle.std.specs.Prelude.{◌≡◌, List, [], ◌∷◌, ⊤}
use Rattle.std.specs.List.{AllByRecursion}

module _ {A X S : Type 0} (run : S → A → X → A × X) where
  -- one item through the stages, one after another, with nothing else in flight
  abbrev pub through : List S → A → X → A × X
  through [] a x = (a, x)
  through (s ∷ ss) a x = through ss (run s a x).0 (run s a x).1

  -- the state after these items, each of which goes through all stages before the next one comes
  abbrev pub state_alone : List S → A → List X → A
  state_alone ss a [] = a
  state_alone ss a (x ∷ xs) = state_alone ss (through ss a x).0 xs

  -- what each of these items comes out as
  abbrev pub items_alone : List S → A → List X → List X
  items_alone ss a [] = []
  items_alone ss a (x ∷ xs) = (through ss a x).1 ∷ items_alone ss (through ss a x).0 xs

  -- what each stage makes of the register before it, all from the old state
  abbrev pub results : List S → List X → A → List X
  results [] rs a = []
  results (s ∷ ss) [] a = []
  results (s ∷ ss) (r ∷ rs) a = (run s a r).1 ∷ results ss rs a

-- an idle item goes through each stage and changes nothing
abbrev pub SkipsIdle : {A X S : Type 0} → (S → A → X → A × X) → X → List S → Type 0
SkipsIdle {A} run idle ss = AllByRecursion (λ s. (a : A) → run s a idle ≡ (a, idle)) ss

module _ {A X S V : Type 0} (run : S → A → X → A × X) (own : S → A → V) where
  -- the first stage leaves what the second owns
  abbrev pub Leaves : S → S → Type 0
  Leaves s t = (a : A) (x : X) → own t (run s a x).0 ≡ own t a

  -- what a stage does depends on what it owns alone
  pub record IsLocal (s : S) : Type 0 where
    pub out : (a b : A) (x : X) → own s a ≡ own s b → (run s a x).1 ≡ (run s b x).1
    pub kept : (a b : A) (x : X) → own s a ≡ own s b → own s (run s a x).0 ≡ own s (run s b x).0

  -- each stage is local, and leaves what the others own
  abbrev pub AreApart : List S → Type 0
  AreApart [] = ⊤
  AreApart (s ∷ ss) = IsLocal s × AllByRecursion (λ t. Leaves s t × Leaves t s) ss × AreApart ss

  -- in the new state each stage's part is what the stage makes of the old state and the register before it
  abbrev pub Clocked : List S → List X → A → A → Type 0
  Clocked [] rs old new = ⊤
  Clocked (s ∷ ss) [] old new = ⊤
  Clocked (s ∷ ss) (r ∷ rs) old new = (own s new ≡ own s (run s old r).0) × Clocked ss rs old new

  -- clock ss rs a is the state after all stages have acted at once
  abbrev pub IsClock : (List S → List X → A → A) → List S → Type 0
  IsClock clock ss = (rs : List X) (a : A) → Clocked ss rs a (clock ss rs a)
