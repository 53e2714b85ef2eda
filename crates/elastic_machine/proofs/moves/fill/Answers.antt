use Rattle.std.proofs.Common.{◌≡◌, ◌+◌, ◌*◌, ◌-◌, ℕ, arith, length}
use Rattle.std.proofs.lemmas.Grind.{common_steps}
use Rattle.std.proofs.lemmas.Slice.{drop-put_mid}
use Rattle.elastic_machine.proofs.moves.fill.Goals as goal

pub returns-clause-after : goal.returns-clause-after
returns-clause-after c =
    let a : ℕ = c.args.at * c.args.width in
    let k : ℕ = a + c.args.width - a in
    let size : length c.enter.new.words ≡ k = grind (arith, common_steps) in
    drop-put_mid a k c.args.words.now c.enter.new.words (a + c.args.width) (omega arith) (omega arith) size
