-- A configuration by a plan.
use Rattle.std.specs.Prelude.{◌≡◌, ℕ, List}
use Rattle.codelets.specs.declared.answer.Codelets.{Codelets}
use Rattle.stage_plan.specs.declared.place.Place.{Place}
use Rattle.stage_plan.specs.Schedule.{IsPlan}
use Rattle.atom_match.specs.Atoms.{AtomForm}
use Rattle.banzai_config.specs.Legal.{LegalFor, Shape}
use Rattle.banzai_config.specs.Parts.{PartsForm}
use Rattle.compile_law.specs.Compiled.{AreAtomsOf, compiled_parts}
use Rattle.dom_compile.specs.Answer.{IsFitted}
use Rattle.plan_check.specs.Placed.{placed}

-- what `front`, `accept` and `configure` give of a text for a target: its codelets with their atoms at the stages of a plan that
-- is lawful, with values that share containers; and the target takes them, with shared containers and without
pub record IsPlanned (s : Shape) (text : List ℕ) (parts : PartsForm) : Type 0 where
  pub codelets : Codelets
  pub atoms : List AtomForm
  pub places : List Place
  pub fitted : IsFitted s.fits s.multiplies text codelets
  pub atoms_are : AreAtomsOf codelets atoms
  pub plan : IsPlan s.depth s.stateless s.stateful codelets.list places
  pub unshared : LegalFor s (compiled_parts codelets s.depth atoms places)
  pub parts_are : parts ≡ placed codelets s.depth atoms places
  pub legal : LegalFor s parts
