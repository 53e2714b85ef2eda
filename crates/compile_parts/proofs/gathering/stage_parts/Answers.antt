use Rattle.std.proofs.Common.{◌<◌, ◌≤◌, ◌∙◌, List, length, map, sym, ap, subst, arith}
use Rattle.codelets.specs.declared.codelet.Codelet.{Codelet}
use Rattle.codelets.specs.declared.answer.Codelets.{Codelets}
use Rattle.atom_match.specs.Atoms.{AtomForm as Does, atom_form, atom_of}
use Rattle.banzai_config.specs.Parts.{stage_form}
use Rattle.compile_law.proofs.Placed.{answer_at, get_map}
use Rattle.compile_parts.proofs.Stages.{item_here, passed_over, stage_whole, taken}
use Rattle.compile_parts.proofs.gathering.stage_parts.Goals as goal
use Rattle.compile_parts.proofs.gathering.stage_parts.Goals.{then-stage+in_ok-add_atom, else-stage}

pub add_atom-requires : goal.add_atom-requires
add_atom-requires g c =
    answer_at (atom_of c.args.codelets.now) c.args.codelets.now.list (map (atom_form g.T.AtomTemplate.trees_of) c.args.atoms.now.list) c.codelets.k c.index-list-k.result
    (atom_form g.T.AtomTemplate.trees_of c.atom.result.now) c.requires.atoms
    (item_here c.list-list.result.now c.args.codelets.now.list c.codelets.k c.index-list-k.result c.list-list.ensures.same c.codelets-test.true c.index-list-k.is)
    (get_map (atom_form g.T.AtomTemplate.trees_of) c.args.atoms.now.list c.codelets.k c.atom.result.now c.atom.ensures)

pub codelets-preserved : goal.codelets-preserved
codelets-preserved g c =
    let cs : Codelets = c.args.codelets.now in
    let atoms : List Does = map (atom_form g.T.AtomTemplate.trees_of) c.args.atoms.now.list in
    let within : c.codelets.k < length cs.list = subst (λ (xs : List Codelet). c.codelets.k < length xs) c.list-list.ensures.same c.codelets-test.true in
    elim c.if-stage.branch [
      | then-stage+in_ok-add_atom w ↦ ap stage_form w.parts-is
          ∙ taken cs cs.list atoms c.args.stages.now c.args.stage c.codelets.k w.index-list-k.result (atom_form g.T.AtomTemplate.trees_of w.atom.result.now)
          (item_here c.list-list.result.now cs.list c.codelets.k w.index-list-k.result c.list-list.ensures.same c.codelets-test.true w.index-list-k.is)
          (get_map (atom_form g.T.AtomTemplate.trees_of) c.args.atoms.now.list c.codelets.k w.atom.result.now w.atom.ensures)
          (omega (arith, within, c.requires.places))
          (stage_form c.codelets.parts) (stage_form w.add_atom.new.stage) c.codelets.invariant (sym c.stage.ensures ∙ w.if-stage.true) w.in_ok-add_atom.ensures
      | else-stage w ↦ ap stage_form w.parts-is
          ∙ passed_over cs cs.list atoms c.args.stages.now c.args.stage c.codelets.k (stage_form c.codelets.parts) c.requires.atoms within c.requires.places c.codelets.invariant
          (λ same. w.if-stage.false (c.stage.ensures ∙ same))
    ]

pub returns : goal.returns
returns g c =
    stage_whole c.args.codelets.now c.args.codelets.now.list (map (atom_form g.T.AtomTemplate.trees_of) c.args.atoms.now.list) c.args.stages.now c.args.stage c.codelets.k
    (stage_form c.codelets.parts) (subst (λ (xs : List Codelet). length xs ≤ c.codelets.k) c.list-list.ensures.same c.codelets-test.false) c.codelets.invariant
