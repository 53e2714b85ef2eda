-- When a read may fail.
use Rattle.std.specs.Prelude.{◌≡◌, ℕ, ◌≤◌, List, Result, MatchResult}
use Rattle.dom_io.specs.Causes.{Rose}
use Rattle.dom_io.specs.declared.shelf.ShelfFault.{ShelfFault}
use Rattle.dom_io.specs.declared.shelf.ShelfFault.TheVariants.{Failed, Memory}

-- a failure where the name's count rose, and else no count moved
abbrev pub FaultCause : (List ℕ → ℕ) → (List ℕ → ℕ) → List ℕ → ShelfFault → Type 0
FaultCause before now name Failed = ((n : List ℕ) → before n ≤ now n) × Rose (before name) (now name)
FaultCause before now name Memory = (n : List ℕ) → now n ≡ before n

abbrev pub ReadCause : {T : Type 0} → (List ℕ → ℕ) → (List ℕ → ℕ) → List ℕ → Result T ShelfFault → Type 0
ReadCause before now name result = MatchResult result (λ _. (n : List ℕ) → now n ≡ before n) (FaultCause before now name)
