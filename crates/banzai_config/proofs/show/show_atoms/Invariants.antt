use Rattle.std.proofs.Common.{◌≡◌, map, take}
use Rattle.banzai_config.specs.Parts.{atom_form, fit_form}
use Rattle.banzai_config.proofs.show.show_atoms.Given as goal

abbrev pub invariant-loop-atom : goal.invariant-loop-atom
invariant-loop-atom g l = map atom_form l.shown ≡ map (fit_form g.T.AtomTemplate.trees_of) (take l.atom-index l.atoms)
