-- Placed codelets do what their statement list does.
use Rattle.std.proofs.Common.{◌≡◌, ℕ, List, length, refl, ◌∙◌}
use Rattle.dom_words.specs.State.{Hash, started}
use Rattle.dom_flat.specs.Meaning.{flat_outcome}
use Rattle.codelets.specs.declared.answer.Codelets.{Codelets}
use Rattle.stage_plan.specs.declared.place.Place.{Place}
use Rattle.stage_plan.specs.Schedule.{IsPlan}
use Rattle.atom_match.specs.Atoms.{AtomForm}
use Rattle.banzai_config.specs.Action.{Arrays, outcome_of}
use Rattle.banzai_config.specs.Legal.{LegalFor, Shape}
use Rattle.banzai_config.specs.Parts.{PartsForm}
use Rattle.compile_law.specs.Compiled.{AreAtomsOf, compiled_parts}
use Rattle.compile_law.specs.Runs.{RunsAs}
use Rattle.compile_law.proofs.Compiled.{does_as_listed}
use Rattle.compile_law.proofs.Turns.{runs_as}
use Rattle.container_plan.proofs.Lawful.{legal_one, narrow}
use Rattle.container_plan.proofs.Legal.{room}
use Rattle.container_plan.proofs.Meaning.{alone_same, one_same}
use Rattle.plan_check.specs.Placed.{placed}

module _ (s : Shape) (c : Codelets) (depth sl sf : ℕ) (atoms : List AtomForm) (places : List Place) (are : AreAtomsOf c atoms) (plan : IsPlan depth sl sf c.list places) (legal : LegalFor s (compiled_parts c depth atoms places)) where
  abbrev own : PartsForm
  own = compiled_parts c depth atoms places

  pub acts : (hash : Hash) (state : Arrays) (packet : List ℕ) → length packet ≡ length c.flat.fields → outcome_of hash (placed c depth atoms places) state packet ≡ flat_outcome hash c.flat.lines c.flat.outputs packet state
  acts hash state packet long =
      one_same hash own (legal_one s own legal refl) (narrow s own legal) (room s own legal refl) state packet long
      ∙ does_as_listed c depth sl sf atoms places are plan hash state packet long

  pub runs : RunsAs c.flat (placed c depth atoms places)
  runs meant means hash packets small long =
      alone_same hash own (legal_one s own legal refl) (narrow s own legal) (room s own legal refl) (started own.arrays) packets long
      ∙ runs_as c depth sl sf atoms places are plan meant means hash packets small long
