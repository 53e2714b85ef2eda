use Rattle.std.proofs.Common.{◌∙◌}
use Rattle.banzai_config.proofs.SetLemmas.{all_below}
use Rattle.banzai_config.proofs.numbers.NumberSet.clear.Goals as goal

pub unmark-requires : goal.unmark-requires
unmark-requires c =
    rw (c.deref_mut.ensures.value, c.deref.ensures.value) (all_below c.self.inside.marks.items c.self.inside.numbers.items (λ n h. c.self.invariant n ∙ h))
