-- Steps one after another, in any order.
use Rattle.std.specs.Prelude.{◌≡◌, List, [], ◌∷◌, ◌++◌, ⊤}
use Rattle.std.specs.List.{AllByRecursion}
use Rattle.pipeline_law.specs.Pipeline.{Midst, Pipeline, Row, acted, cycled, leaving, moved_on, moved_out}

-- the first list has each item of the second exactly once
abbrev pub IsOrder : {X : Type 0} → List X → List X → Type 0
IsOrder [] all = all ≡ []
IsOrder {X} (x ∷ order) all = (before : List X) × (after : List X) × (all ≡ before ++ x ∷ after) × IsOrder order (before ++ after)

module _ {X M : Type 0} (step : X → M → M) where
  -- the steps of the list, one after another
  abbrev pub runs : List X → M → M
  runs [] m = m
  runs (x ∷ xs) m = runs xs (step x m)

  -- either of the two may come first
  abbrev pub Commute : X → X → Type 0
  Commute x y = (m : M) → step x (step y m) ≡ step y (step x m)

  -- each two of the list
  abbrev pub AllCommute : List X → Type 0
  AllCommute [] = ⊤
  AllCommute (x ∷ xs) = AllByRecursion (λ y. Commute x y) xs × AllCommute xs

-- before any stage has acted, the copies are the registers
abbrev pub copied : {A X : Type 0} → Row A X → Midst A X
copied row = record { copies = row.registers; state = row.state }

module _ {A X S V F : Type 0} (p : Pipeline A X S V) (step : F → Midst A X → Midst A X) where
  -- the steps of the list do what all stages do at once
  abbrev pub DoesCycle : List F → Row A X → Type 0
  DoesCycle all row = runs step all (copied row) ≡ acted p.run p.clock p.stages row

  -- the steps of the list, and then everything moves on: that is the cycle
  pub record IsCycle (order : List F) (row : Row A X) (entry : X) : Type 0 where
    pub row_is : moved_on p.stages (runs step order (copied row)) entry ≡ cycled p.run p.clock p.stages row entry
    pub leaves : moved_out p.stages (runs step order (copied row)) entry ≡ leaving p.run p.clock p.stages row entry
