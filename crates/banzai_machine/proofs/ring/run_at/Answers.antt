use Rattle.std.proofs.Common.{◌≡◌, ◌+◌, ◌*◌, ◌-◌, ℕ, arith, length}
use Rattle.std.proofs.lemmas.Grind.{common_steps}
use Rattle.std.proofs.lemmas.Slice.{drop-put_mid}
use Rattle.banzai_machine.proofs.ring.run_at.Goals as goal

pub returns-clause-after : goal.returns-clause-after
returns-clause-after g c =
    let a : ℕ = c.args.at * c.args.width in
    let k : ℕ = a + c.args.width - a in
    let size : length c.run_stage.new.words ≡ k = grind (arith, common_steps) in
    drop-put_mid a k c.args.words.now c.run_stage.new.words (a + c.args.width) (omega arith) (omega arith) size
