-- The stages that have atoms.
use Rattle.std.specs.Prelude.{ℕ, suc, Bool, true, false, List, [], ◌∷◌, length, nat_lt, ◌||◌}
use Rattle.banzai_config.specs.Parts.{StageForm}

abbrev pub has_atoms : StageForm → Bool
has_atoms stage = nat_lt 0 (length stage.stateless) || nat_lt 0 (length stage.stateful)

abbrev pub noted : Bool → ℕ → List ℕ → List ℕ
noted true k ks = k ∷ ks
noted false k ks = ks

-- their numbers in order, where the first stage has number k
abbrev pub busy_from : ℕ → List StageForm → List ℕ
busy_from k [] = []
busy_from k (stage ∷ stages) = noted (has_atoms stage) k (busy_from (suc k) stages)
