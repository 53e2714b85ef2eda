use Rattle.std.proofs.Common.{ℕ, Some, ap, sym, ◌∙◌}
use Rattle.probe_taps.proofs.Boxes.{get_form}
use Rattle.probe_taps.proofs.tapped.Tapped.tell.Goals as goal

pub returns : goal.returns
returns g c =
    get_form _ (λ a. a.tap.number) c.args.self.now.taps.items c.args.position c.index.result.now c.requires c.index.ensures
    ∙ ap (λ (n : ℕ). Some n) (sym c.number.ensures)
