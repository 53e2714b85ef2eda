use Rattle.std.proofs.Common.{◌≡◌, ℕ, ◌+◌, Option, Some, None, sym, ap, ◌∙◌, arith}
use Rattle.banzai_config.specs.declared.walk.BrokenAtom.{BrokenAtom}
use Rattle.banzai_config.specs.Judged.{sizes_in}
use Rattle.banzai_config.specs.Walked.{op_atoms, tree_atom}
use Rattle.banzai_config.proofs.Walking.{length_ops, seen_next, tree_turn}
use Rattle.banzai_config.proofs.walk.walk_trees.Goals as goal

pub returns-in-Some-clause-first : goal.returns-in-Some-clause-first
returns-in-Some-clause-first g c =
    λ stages ops many is.
    let at : ℕ → Option BrokenAtom = λ n. Some (record { kind = c.in-Some.kind; atom = n }) in
    sym (c.loop-place.invariant.found stages ops many is
    ∙ tree_turn g.T.AtomTemplate.fits g.T.AtomTemplate.CONST_BITS c.args.limits (sizes_in c.args.frame) stages c.loop-place.seen (Some c.in-Some.kind) ops c.args.atoms.now c.loop-place.place c.index-atoms-place.result
    c.loop-place-test.true c.index-atoms-place.is (c.loop-place.invariant.seen stages ops many is) (sym c.in-Some.is ∙ c.in_ok-kind.ensures.kind)
    ∙ ap at (omega (arith, length_ops ops, many)))

pub loop-place-preserved : goal.loop-place-preserved
loop-place-preserved g c = record {
  room = c.judge_trees.ensures.room;
  few = omega (arith, c.in_ok-kind.ensures.placed c.in-None.is);
  seen = λ stages ops many is.
      seen_next tree_atom (op_atoms ops) c.args.atoms.now c.loop-place.place c.index-atoms-place.result c.loop-place-test.true c.index-atoms-place.is stages c.loop-place.seen c.judge_trees.new.seen
      (c.loop-place.invariant.seen stages ops many is) (c.in_ok-kind.ensures.noted c.in-None.is);
  found = λ stages ops many is.
      c.loop-place.invariant.found stages ops many is
      ∙ tree_turn g.T.AtomTemplate.fits g.T.AtomTemplate.CONST_BITS c.args.limits (sizes_in c.args.frame) stages c.loop-place.seen None ops c.args.atoms.now c.loop-place.place c.index-atoms-place.result
      c.loop-place-test.true c.index-atoms-place.is (c.loop-place.invariant.seen stages ops many is) (sym c.in-None.is ∙ c.in_ok-kind.ensures.kind);
}
