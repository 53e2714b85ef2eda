use Rattle.std.proofs.Common.{◌∙◌}
use Rattle.banzai_config.proofs.SetLemmas.{all_below}
use Rattle.banzai_config.proofs.numbers.NumberSet.as_slice.Goals as goal

pub returns-clause-below : goal.returns-clause-below
returns-clause-below c = rw (← c.self.view_is) (all_below c.self.inside.marks.items c.self.inside.numbers.items (λ n h. c.self.invariant n ∙ h))
