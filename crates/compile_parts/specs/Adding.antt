-- A stage with one more atom.
use Rattle.std.specs.Prelude.{[], ◌∷◌, ◌++◌}
use Rattle.banzai_config.specs.Parts.{Atom, Stateful, StageForm, Stateless}

abbrev pub with_atom : Atom → StageForm → StageForm
with_atom (Stateless a) s = record { stateless = s.stateless ++ a ∷ []; stateful = s.stateful }
with_atom (Stateful a) s = record { stateless = s.stateless; stateful = s.stateful ++ a ∷ [] }
