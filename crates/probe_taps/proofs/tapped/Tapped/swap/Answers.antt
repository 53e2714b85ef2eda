use Rattle.std.proofs.Common.{refl}
use Rattle.probe_taps.proofs.Boxes.{get_form, stages_set, taps_set}
use Rattle.probe_taps.proofs.tapped.Tapped.swap.Goals as goal

pub returns-clause-back : goal.returns-clause-back
returns-clause-back g c =
    rw c.replace.ensures.value
    (get_form _ (λ a. a.tap) c.args.self.now.taps.items c.args.position c.index_mut.result.now c.requires c.index_mut.ensures.value)

pub returns-clause-taps : goal.returns-clause-taps
returns-clause-taps g c =
    rw (← c.replace.ensures.after) (taps_set _ c.args.self.now.taps.items c.args.position _)

pub returns-clause-stages : goal.returns-clause-stages
returns-clause-stages g c =
    stages_set _ c.args.self.now.taps.items c.args.position _ c.index_mut.result.now c.requires c.index_mut.ensures.value refl
