use Rattle.dom_words.proofs.NamesLemmas.{one_more}
use Rattle.dom_words.proofs.names.Names.copy.Goals as goal

pub loop-k-preserved : goal.loop-k-preserved
loop-k-preserved c =
    one_more _ _ _ _ _ _ _ c.len-k-end.ensures.distinct (rw (← c.len-k-end.ensures.number) c.loop-k-test.true) c.loop-k.invariant c.in_ok-name.ensures c.get.ensures.same c.in_ok-_new.ensures.new c.in_ok-_new.ensures.names
