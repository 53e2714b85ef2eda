use Rattle.std.proofs.Common.{◌≡◌, map, take}
use Rattle.banzai_config.specs.Parts.{atom_form, fit_form}
use Rattle.banzai_config.proofs.build.fit_atoms.Given as goal

abbrev pub invariant-loop-k : goal.invariant-loop-k
invariant-loop-k g l = map (fit_form g.T.AtomTemplate.trees_of) l.fitted ≡ map atom_form (take l.k l.atoms)
