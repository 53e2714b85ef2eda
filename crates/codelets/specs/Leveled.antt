-- Levels and uses of codelets in their order.
use Rattle.std.specs.Prelude.{◌≡◌, ℕ, ◌+◌, ◌<◌, List, Some, map, slice_get, slice_index}
use Rattle.std.specs.List.{All}
use Rattle.codelets.specs.declared.codelet.Codelet.{Codelet}
use Rattle.codelets.specs.Lists.{max_of}

-- the level of the codelet at a position
abbrev pub level_at : List Codelet → ℕ → ℕ
level_at codelets u = slice_index (map (λ c. c.level) codelets) u

-- a codelet uses codelets before it, and its level is 1 more than the greatest of theirs
abbrev pub AreLeveled : List Codelet → Type 0
AreLeveled codelets =
    (k : ℕ) (c : Codelet) → slice_get codelets k ≡ Some c → All (λ u. u < k) c.uses × (c.level ≡ 1 + max_of (map (level_at codelets) c.uses))
