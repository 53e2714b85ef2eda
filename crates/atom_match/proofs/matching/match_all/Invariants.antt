use Rattle.std.proofs.Common.{◌≡◌, Some, drop, map, take}
use Rattle.std.specs.Prelude.{find, nat_eq, not}
use Rattle.atom_match.specs.Atoms.{atom_form, atom_of, fits_codelet}
use Rattle.atom_match.proofs.matching.match_all.Given as goal

abbrev pub invariant-loop-codelet : goal.invariant-loop-codelet
invariant-loop-codelet g l = record {
  atoms : map (λ atom. Some (atom_form g.T.AtomTemplate.trees_of atom)) l.list ≡ map (atom_of l.codelets) (take l.codelet-index l.codelets.list);
  outside : find (λ c. not (fits_codelet g.T.AtomTemplate.fits (not (nat_eq g.row.MUL 0)) l.codelets c)) l.codelets.list ≡ find (λ c. not (fits_codelet g.T.AtomTemplate.fits (not (nat_eq g.row.MUL 0)) l.codelets c)) (drop l.codelet-index l.codelets.list);
}
