use Rattle.std.proofs.Common.{◌≡◌, ℕ, ◌<◌, length, get_or, ◌∙◌, ap, arith}
use Rattle.std.proofs.lemmas.List.{length-map, length-set}
use Rattle.banzai_machine.proofs.Slots.{sizes_keep}
use Rattle.banzai_machine.proofs.fire.write.Goals as goal

pub returns-clause-sizes : goal.returns-clause-sizes
returns-clause-sizes c =
    let same : length c.set_word.new.array ≡ length (get_or c.args.arrays.now c.args.slot.now.array c.index-arrays-slot.result) =
    ap length c.set_word.ensures ∙ length-set (get_or c.args.arrays.now c.args.slot.now.array c.index-arrays-slot.result) c.args.at c.args.pair.1 in
    let within : c.args.slot.now.array < length c.args.arrays.now = omega (arith, c.requires.slot.array, length-map c.args.arrays.now (length {A = ℕ})) in
    sizes_keep c.args.arrays.now c.args.slot.now.array c.set_word.new.array c.index-arrays-slot.result same within
