-- Codelets at given stages.
use Rattle.std.specs.Prelude.{ℕ, List}
use Rattle.codelets.specs.declared.answer.Codelets.{Codelets}
use Rattle.stage_plan.specs.declared.place.Place.{Place}
use Rattle.atom_match.specs.Atoms.{AtomForm}
use Rattle.banzai_config.specs.Parts.{PartsForm}
use Rattle.compile_law.specs.Compiled.{compiled_parts}
use Rattle.container_plan.specs.Shared.{shared}

-- the parts of a configuration in `depth` stages that has the atoms of codelets at these places, and whose values share
-- containers
abbrev pub placed : Codelets → (depth : ℕ) → List AtomForm → List Place → PartsForm
placed codelets depth atoms places = shared (compiled_parts codelets depth atoms places)
