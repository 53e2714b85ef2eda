use Rattle.std.proofs.Common.{◌≡◌, map, take}
use Rattle.std.specs.Prelude.{slice_index}
use Rattle.banzai_config.specs.Parts.{atom_form}
use Rattle.container_plan.specs.Renamed.{form_renamed}
use Rattle.container_plan.proofs.naming.named_atoms.Given as goal

abbrev pub invariant-loop-atom : goal.invariant-loop-atom
invariant-loop-atom l = map atom_form l.new ≡ map (form_renamed (slice_index l.names)) (map atom_form (take l.atom-index l.atoms))
