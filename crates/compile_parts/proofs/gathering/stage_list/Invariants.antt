use Rattle.std.proofs.Common.{◌≡◌, map}
use Rattle.atom_match.specs.Atoms.{atom_form}
use Rattle.banzai_config.specs.Parts.{stage_form}
use Rattle.compile_law.specs.Compiled.{staged, stages_from}
use Rattle.compile_parts.proofs.gathering.stage_list.Given as goal

abbrev pub invariant-stages : goal.invariant-stages
invariant-stages g l =
    map stage_form l.list ≡ stages_from (staged l.codelets (map (atom_form g.T.AtomTemplate.trees_of) l.atoms.list) l.stages) 0 l.k
