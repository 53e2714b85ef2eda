-- The stage of an array.
use Rattle.std.specs.Prelude.{ℕ, ◌+◌, Option, Some, None, List, [], ◌∷◌, if◌then◌else◌}
use Rattle.banzai_config.specs.Legal.{has}
use Rattle.banzai_config.specs.Named.{stage_arrays}
use Rattle.banzai_config.specs.Parts.{StageForm}

-- the first of these stages that holds the array; k is the number of the first of them
abbrev pub place_from : ℕ → List StageForm → ℕ → Option ℕ
place_from k [] a = None
place_from k (stage ∷ stages) a = if has a (stage_arrays stage) then Some k else place_from (k + 1) stages a

-- the stage whose atoms hold the array, counted from 1
abbrev pub place_of : List StageForm → ℕ → Option ℕ
place_of stages a = place_from 1 stages a
