use Rattle.std.proofs.Common.{◌≡◌, [], Some, None, sym, ap, ◌∙◌, arith}
use Rattle.banzai_config.specs.Judged.{sizes_in}
use Rattle.banzai_config.specs.Walked.{op_atom}
use Rattle.banzai_config.proofs.Walking.{op_turn, seen_next}
use Rattle.banzai_config.proofs.walk.walk_ops.Goals as goal

pub returns-in-Some-clause-first : goal.returns-in-Some-clause-first
returns-in-Some-clause-first g c =
    λ stages is.
    sym (c.loop-place.invariant.first stages is
    ∙ op_turn g.T.AtomTemplate.fits g.T.AtomTemplate.CONST_BITS c.args.limits (sizes_in c.args.frame) stages c.loop-place.seen (Some c.in-Some.kind) c.args.atoms.now c.loop-place.place c.index-atoms-place.result
    c.loop-place-test.true c.index-atoms-place.is (c.loop-place.invariant.seen stages is) (sym c.in-Some.is ∙ c.in_ok-kind.ensures.kind))

pub loop-place-preserved : goal.loop-place-preserved
loop-place-preserved g c = record {
  room = c.judge_op.ensures.room;
  few = omega (arith, c.in_ok-kind.ensures.placed c.in-None.is);
  seen = λ stages is. seen_next op_atom [] c.args.atoms.now c.loop-place.place c.index-atoms-place.result c.loop-place-test.true c.index-atoms-place.is stages c.loop-place.seen c.judge_op.new.seen (c.loop-place.invariant.seen stages is) (c.in_ok-kind.ensures.noted c.in-None.is);
  first = λ stages is.
      c.loop-place.invariant.first stages is
      ∙ op_turn g.T.AtomTemplate.fits g.T.AtomTemplate.CONST_BITS c.args.limits (sizes_in c.args.frame) stages c.loop-place.seen None c.args.atoms.now c.loop-place.place c.index-atoms-place.result
      c.loop-place-test.true c.index-atoms-place.is (c.loop-place.invariant.seen stages is) (sym c.in-None.is ∙ c.in_ok-kind.ensures.kind);
}
