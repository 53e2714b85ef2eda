-- What follows from the order of a statement list.
use Rattle.std.specs.Prelude.{◌≡◌, ℕ, suc, true, List, [], ◌∷◌, ⊤, ◌≢◌}
use Rattle.std.specs.List.{AllByRecursion}
use Rattle.dom_flat.specs.declared.line.Line.{Line}
use Rattle.dom_flat.specs.Flanks.{Flank, fetch, store, plain, flank_of}
use Rattle.dom_flat.specs.Kept.{are_below}
use Rattle.dom_flat.specs.Lines.{IsQuiet, operands_of}

-- each statement uses values before its own; n is the number of the first statement's value
abbrev pub AreEarlier : ℕ → List Line → Type 0
AreEarlier n [] = ⊤
AreEarlier n (l ∷ lines) = (are_below n (operands_of l) ≡ true) × AreEarlier (suc n) lines

-- the second flank does not read the array that the first writes
abbrev pub Clears : Flank → Flank → Type 0
Clears (store a i v) (fetch b j) = b ≢ a
Clears (store a i v) (store b j w) = ⊤
Clears (store a i v) plain = ⊤
Clears (fetch a i) f = ⊤
Clears plain f = ⊤

-- no write flank stands before a read flank of its array
abbrev pub AreFetchedFirst : List Line → Type 0
AreFetchedFirst [] = ⊤
AreFetchedFirst (l ∷ lines) = AllByRecursion (λ m. Clears (flank_of l) (flank_of m)) lines × AreFetchedFirst lines

-- no statement writes the array of a write flank
abbrev pub StoresAlone : Flank → List Line → Type 0
StoresAlone (store a i v) lines = IsQuiet a lines
StoresAlone (fetch a i) lines = ⊤
StoresAlone plain lines = ⊤

-- each array has one write flank at most
abbrev pub AreStoredOnce : List Line → Type 0
AreStoredOnce [] = ⊤
AreStoredOnce (l ∷ lines) = StoresAlone (flank_of l) lines × AreStoredOnce lines
