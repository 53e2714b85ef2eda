use Rattle.std.proofs.Common.{sym, ap, ◌∙◌, ◌++◌, ◌∷◌, []}
use Rattle.banzai_config.proofs.Heads.{all_fresh, fresh_more, front_more, stale}
use Rattle.banzai_config.proofs.head.distinct_names.Goals as goal

pub returns-then-not-fresh : goal.returns-then-not-fresh
returns-then-not-fresh c =
    stale c.args.names.now c.loop-k.k c.index-names-k.result c.loop-k-test.true c.index-names-k.is c.loop-k.found c.loop-k.invariant.found c.loop-k.invariant.rest
    (sym c.if-not-fresh.true ∙ c.in_ok-fresh.ensures.fresh)

pub loop-k-preserved : goal.loop-k-preserved
loop-k-preserved c = record {
  found =
      c.in_ok-fresh.ensures.added c.if-not-fresh.false ∙ ap (λ ys. ys ++ c.index-names-k.result ∷ []) c.loop-k.invariant.found
      ∙ sym (front_more c.args.names.now c.loop-k.k c.index-names-k.result c.loop-k-test.true c.index-names-k.is);
  rest =
      fresh_more c.args.names.now c.loop-k.k c.index-names-k.result c.loop-k-test.true c.index-names-k.is c.loop-k.found c.loop-k.invariant.found c.loop-k.invariant.rest
      (sym c.if-not-fresh.false ∙ c.in_ok-fresh.ensures.fresh);
}

pub returns : goal.returns
returns c = all_fresh c.args.names.now c.loop-k.k c.loop-k.found c.loop-k-test.false c.loop-k.invariant.found c.loop-k.invariant.rest
