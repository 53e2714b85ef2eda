use Rattle.std.proofs.Common.{◌≡◌, drop}
use Rattle.banzai_config.specs.Fitted.{atoms_have}
use Rattle.banzai_config.proofs.places.have_array.Given as goal

abbrev pub invariant-loop-atom : goal.invariant-loop-atom
invariant-loop-atom g l = atoms_have l.array l.atoms ≡ atoms_have l.array (drop l.atom-index l.atoms)
