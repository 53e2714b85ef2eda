use Rattle.std.proofs.Common.{◌≡◌, ◌+◌, ◌*◌, ℕ, List, length, replicate, refl, sym, ◌∙◌, ap}
use Rattle.dom_words.specs.State.{started}
use Rattle.dom_words.specs.declared.array.Array.{Array}
use Rattle.elastic_machine.proofs.Starting.{kept_new, queues_new}
use Rattle.elastic_machine.proofs.elastic.Elastic.of.Goals as goal

pub invariant_of-result : goal.invariant_of-result
invariant_of-result g c =
    let config = c.args.config in
    let n : ℕ = g.row.DEPTH + 1 in
    let count : n ≡ length config.stages + 1 = ap (λ (i : ℕ). i + 1) (sym c.requires.depth) in
    let cells : c.in_ok-cells.cells.items ≡ started config.arrays = c.in_ok-cells.ensures ∙ ap (λ (xs : List Array). started xs) c.arrays-declared.ensures in
    let words : c.in_ok-words.words.items ≡ replicate (n * g.row.CAP * config.containers) 0 =
    c.in_ok-words.ensures ∙ ap (λ (i : ℕ). replicate (n * g.row.CAP * i) 0) c.containers-width.ensures in
    let room : c.in_ok-touches.touches.room ≡ length config.arrays = c.in_ok-touches.ensures.room ∙ c.len.ensures ∙ ap (λ (xs : List Array). length xs) c.arrays-declared.ensures in (
      c.requires.depth,
      c.requires.runs,
      kept_new config g.row.CAP n c.in_ok-marks.marks.items c.in_ok-words.words.items c.in_ok-marks.ensures count c.in_ok-cells.cells.items c.in_ok-touches.touches
          c.requires.cap c.requires.runs c.requires.places words cells room,
    )

pub returns : goal.returns
returns g c =
    let config = c.args.config in
    let n : ℕ = g.row.DEPTH + 1 in
    let count : n ≡ length config.stages + 1 = ap (λ (i : ℕ). i + 1) (sym c.requires.depth) in
    let cells : c.in_ok-cells.cells.items ≡ started config.arrays = c.in_ok-cells.ensures ∙ ap (λ (xs : List Array). started xs) c.arrays-declared.ensures in
    let queues = queues_new config g.row.CAP n c.in_ok-marks.marks.items c.in_ok-words.words.items c.in_ok-marks.ensures count in
    record { config = refl; queues = queues; state = cells; stands = λ hash. (queues, cells) }
