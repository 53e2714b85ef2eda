use Rattle.std.proofs.Common.{◌≡◌, ◌≤◌, ◌∷◌, ◌++◌, [], Bool, List, Some, length, sym, ap, ◌∙◌, subst}
use Rattle.std.specs.Prelude.{find, nat_eq, not, option_map}
use Rattle.codelets.specs.declared.codelet.Codelet.{Codelet}
use Rattle.atom_match.specs.Atoms.{atom_form, atom_of, fits_codelet}
use Rattle.atom_match.proofs.Early.{codelet_earlier}
use Rattle.atom_match.proofs.Matched.{item_at, atoms_next, fitted, not_fitted, outside_next, outside_here, outside_none, pushed}
use Rattle.atom_match.proofs.matching.match_all.Goals as goal

pub atom_for-requires : goal.atom_for-requires
atom_for-requires g c =
    codelet_earlier c.args.codelets.now c.loop-codelet.codelet-index c.codelet-item.result (item_at c.args.codelets.now.list c.list-codelet-items.result.now c.loop-codelet.codelet-index c.codelet-item.result c.list-codelet-items.ensures.same c.loop-codelet-test.true c.codelet-item.is)

pub returns-in-Ok-None-clause-refused : goal.returns-in-Ok-None-clause-refused
returns-in-Ok-None-clause-refused g c =
    let p : Codelet → Bool = λ d. not (fits_codelet g.T.AtomTemplate.fits (not (nat_eq g.row.MUL 0)) c.args.codelets.now d) in
    let at = item_at c.args.codelets.now.list c.list-codelet-items.result.now c.loop-codelet.codelet-index c.codelet-item.result c.list-codelet-items.ensures.same c.loop-codelet-test.true c.codelet-item.is in
    ap (option_map (λ (d : Codelet). d.first)) (outside_here p c.args.codelets.now.list c.loop-codelet.codelet-index c.codelet-item.result (find p c.args.codelets.now.list) at c.loop-codelet.invariant.outside (not_fitted g.T.AtomTemplate.trees_of g.T.AtomTemplate.fits (not (nat_eq g.row.MUL 0)) c.args.codelets.now c.codelet-item.result c.in-Ok-None.field-0 c.in-Ok-None.ensures c.in-Ok-None.field-0-is))

pub loop-codelet-preserved : goal.loop-codelet-preserved
loop-codelet-preserved g c =
    let p : Codelet → Bool = λ d. not (fits_codelet g.T.AtomTemplate.fits (not (nat_eq g.row.MUL 0)) c.args.codelets.now d) in
    let at = item_at c.args.codelets.now.list c.list-codelet-items.result.now c.loop-codelet.codelet-index c.codelet-item.result c.list-codelet-items.ensures.same c.loop-codelet-test.true c.codelet-item.is in
    let fit = fitted g.T.AtomTemplate.trees_of g.T.AtomTemplate.fits (not (nat_eq g.row.MUL 0)) c.args.codelets.now c.codelet-item.result c.in-Ok-Some.field-0 c.in-Ok-Some.atom c.in-Ok-Some.ensures c.in-Ok-Some.field-0-is in record {
      atoms = atoms_next (λ atom. Some (atom_form g.T.AtomTemplate.trees_of atom)) (atom_of c.args.codelets.now) c.loop-codelet.list c.push.new.self c.in-Ok-Some.atom c.args.codelets.now.list c.loop-codelet.codelet-index c.codelet-item.result at c.loop-codelet.invariant.atoms (pushed c.push.result (c.push.new.self ≡ c.loop-codelet.list ++ c.in-Ok-Some.atom ∷ []) (sym c.if-is_err.false ∙ c.is_err.ensures.value) c.push.ensures.ok) fit.1;
      outside = outside_next p c.args.codelets.now.list c.loop-codelet.codelet-index c.codelet-item.result (find p c.args.codelets.now.list) at c.loop-codelet.invariant.outside fit.0;
    }

pub returns-clause-fit : goal.returns-clause-fit
returns-clause-fit g c =
    let p : Codelet → Bool = λ d. not (fits_codelet g.T.AtomTemplate.fits (not (nat_eq g.row.MUL 0)) c.args.codelets.now d) in
    outside_none p c.args.codelets.now.list c.loop-codelet.codelet-index (find p c.args.codelets.now.list) c.loop-codelet.invariant.outside (subst (λ (xs : List Codelet). length xs ≤ c.loop-codelet.codelet-index) c.list-codelet-items.ensures.same c.loop-codelet-test.false)
