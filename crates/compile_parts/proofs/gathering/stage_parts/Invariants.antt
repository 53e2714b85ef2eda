use Rattle.std.proofs.Common.{◌≡◌, map, take}
use Rattle.atom_match.specs.Atoms.{atom_form}
use Rattle.banzai_config.specs.Parts.{stage_form}
use Rattle.compile_law.specs.Compiled.{stage_at, staged}
use Rattle.compile_parts.proofs.gathering.stage_parts.Given as goal

abbrev pub invariant-codelets : goal.invariant-codelets
invariant-codelets g l =
    stage_form l.parts ≡ stage_at (take l.k (staged l.codelets (map (atom_form g.T.AtomTemplate.trees_of) l.atoms.list) l.stages)) l.stage
