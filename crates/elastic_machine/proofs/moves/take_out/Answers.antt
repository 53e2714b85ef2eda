use Rattle.std.proofs.Common.{◌≡◌, ◌+◌, ◌*◌, ◌≤◌, ℕ, Some, List, length, take, drop, map, get_or, slice_get, ap, subst, sym, ◌∙◌}
use Rattle.std.proofs.lemmas.Option.{slice_get-get_or}
use Rattle.atom_traits.specs.Form.{port_word}
use Rattle.banzai_machine.proofs.Every.{every_at}
use Rattle.elastic_machine.specs.declared.mark.Mark.{Mark}
use Rattle.elastic_machine.specs.Lanes.{MarkWithin}
use Rattle.elastic_machine.proofs.Places.{drop_is, fits_at}
use Rattle.elastic_machine.proofs.moves.take_out.Goals as goal

pub returns-clause-leaves : goal.returns-clause-leaves
returns-clause-leaves c =
    let w : ℕ = c.args.width in
    let cap : ℕ = c.args.cap in
    let k : ℕ = c.args.k in
    let ms : List Mark = c.args.marks.now in
    let ws : List ℕ = c.args.words.now in
    let none : Mark = record { start = 0; count = 0 } in
    let m : Mark = get_or ms k none in
    let at_m : slice_get ms k ≡ Some m = slice_get-get_or ms k none c.requires.k in
    let within : MarkWithin cap m = every_at (λ z. MarkWithin cap z) ms k m c.requires.held.within at_m in
    let is = drop_is w cap ms ws k m at_m within c.shrink.new.mark c.shrink.ensures.start c.shrink.ensures.count in
    record {
      head = take w (drop ((k * cap + m.start) * w) ws);
      rest = is.0;
      at = is.1;
      queues = is.2;
      left = c.show_at.ensures ∙ ap (λ (n : ℕ). map (λ port. port_word port (take w (drop (n * w) ws))) c.args.outputs.now) c.place-at.ensures;
    }

pub show_at-requires-clause-fits : goal.show_at-requires-clause-fits
show_at-requires-clause-fits c =
    let w : ℕ = c.args.width in
    let cap : ℕ = c.args.cap in
    let k : ℕ = c.args.k in
    let ms : List Mark = c.args.marks.now in
    let none : Mark = record { start = 0; count = 0 } in
    let at_m : slice_get ms k ≡ Some (get_or ms k none) = slice_get-get_or ms k none c.requires.k in
    let within : MarkWithin cap (get_or ms k none) = every_at (λ z. MarkWithin cap z) ms k (get_or ms k none) c.requires.held.within at_m in
    subst (λ (n : ℕ). n * w + w ≤ length c.args.words.now) (sym c.place-at.ensures)
    (fits_at w cap (length ms) k (get_or ms k none).start (length c.args.words.now) c.requires.k within.start c.requires.held.wide)
