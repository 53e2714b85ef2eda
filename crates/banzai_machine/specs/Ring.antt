-- Registers in places of one flat list, of which one is the newest.
use Rattle.std.specs.Prelude.{◌≡◌, ℕ, ◌+◌, ◌<◌, ◌≤◌, Bool, true, false, Some, None, List, [], ◌∷◌, ◌++◌, take, drop}
use Rattle.banzai_config.specs.Action.{Entry}

-- a register: its words, where its flag is set
abbrev pub shown_register : Bool → List ℕ → Entry
shown_register true words = Some words
shown_register false words = None

-- the places of a flat list: so many words each, and a flag
abbrev pub places : ℕ → List Bool → List ℕ → List Entry
places width [] words = []
places width (b ∷ bs) words = shown_register b (take width words) ∷ places width bs (drop width words)

-- the places from a position on: register k is the place k steps behind the newest
abbrev pub rotated : {X : Type 0} → ℕ → List X → List X
rotated position xs = drop position xs ++ take position xs

-- the registers of a ring
abbrev pub ring : ℕ → ℕ → List Bool → List ℕ → List Entry
ring width position filled words = rotated position (places width filled words)

-- at: the place that is k steps behind a position, where there are depth places
pub record IsPlace (position k depth at : ℕ) : Type 0 where
  pub within : at < depth
  pub near : position + k < depth → at ≡ position + k
  pub far : depth ≤ position + k → at + depth ≡ position + k
