-- Each array belongs to one slot, and each container that a stage writes to one write of the stage.
use Rattle.std.specs.Prelude.{ℕ, List, [], ◌∷◌, ◌≢◌, ⊤}
use Rattle.std.specs.List.{flat_map, AllByRecursion}
use Rattle.banzai_config.specs.Named.{stage_arrays, stage_targets}
use Rattle.banzai_config.specs.Parts.{StageForm}

-- no two places of the list have the same number
abbrev pub AreDistinct : List ℕ → Type 0
AreDistinct [] = ⊤
AreDistinct (x ∷ xs) = AllByRecursion (λ y. x ≢ y) xs × AreDistinct xs

-- each array stands in one slot of all stages
abbrev pub OwnArrays : List StageForm → Type 0
OwnArrays stages = AreDistinct (flat_map stage_arrays stages)

-- each container that a stage writes has one writer there
abbrev pub OwnContainers : List StageForm → Type 0
OwnContainers stages = AllByRecursion (λ stage. AreDistinct (stage_targets stage)) stages
