use Rattle.std.proofs.Common.{◌≡◌, ℕ, ◌*◌, Bool, List, length, replicate, refl, sym, ◌∙◌, ap}
use Rattle.dom_words.specs.State.{started}
use Rattle.dom_words.specs.declared.array.Array.{Array}
use Rattle.banzai_machine.specs.Kept.{set_flags}
use Rattle.banzai_machine.proofs.Beginning.{kept_new, row_new}
use Rattle.banzai_machine.proofs.Idle.{none_set}
use Rattle.banzai_machine.proofs.machine.Machine.of.Goals as goal

pub invariant_of-result : goal.invariant_of-result
invariant_of-result g c =
    let declared : c.arrays-declared.result.now ≡ c.args.config.arrays = c.arrays-declared.ensures in
    let cells : c.in_ok-cells.cells.items ≡ started c.args.config.arrays = c.in_ok-cells.ensures ∙ ap (λ (xs : List Array). started xs) declared in
    let words : c.in_ok-words.words.items ≡ replicate (c.stages-depth.result * c.args.config.containers) 0 =
    c.in_ok-words.ensures ∙ ap (λ (n : ℕ). replicate (c.stages-depth.result * n) 0) c.containers-width.ensures in
    let room : c.in_ok-touches.touches.room ≡ length c.args.config.arrays = c.in_ok-touches.ensures.room ∙ c.len.ensures ∙ ap (λ (xs : List Array). length xs) declared in (
      c.requires.depth,
      c.requires.runs,
      c.in_ok-active.ensures,
      sym (ap (λ (bs : List Bool). set_flags bs) c.in_ok-filled.ensures ∙ none_set c.stages-depth.result),
      kept_new c.args.config c.stages-depth.result c.in_ok-filled.filled.items c.in_ok-words.words.items c.in_ok-cells.cells.items c.stages-depth.ensures
          c.in_ok-filled.ensures cells c.in_ok-touches.touches c.requires.runs words c.in_ok-touches.ensures.list room,
    )

pub returns : goal.returns
returns g c =
    let cells : c.in_ok-cells.cells.items ≡ started c.args.config.arrays = c.in_ok-cells.ensures ∙ ap (λ (xs : List Array). started xs) c.arrays-declared.ensures in
    record {
      config = refl;
      row =
          row_new c.args.config c.stages-depth.result c.in_ok-filled.filled.items c.in_ok-words.words.items c.in_ok-cells.cells.items c.stages-depth.ensures
          c.in_ok-filled.ensures cells;
      stands = λ hash.
          row_new c.args.config c.stages-depth.result c.in_ok-filled.filled.items c.in_ok-words.words.items c.in_ok-cells.cells.items c.stages-depth.ensures
          c.in_ok-filled.ensures cells;
      touches = c.in_ok-touches.ensures.list;
    }
