use Rattle.std.proofs.Common.{◌≤◌, arith}
use Rattle.codelets.specs.Lists.{max_of}
use Rattle.codelets.proofs.Rounds.{small_by_max}
use Rattle.codelets.proofs.leveling.are_settled.Goals as goal

pub round-requires : goal.round-requires
round-requires c =
    let most : max_of c.args.levels.now ≤ c.args.most = omega (arith, c.greatest.ensures, c.if-most-greatest.false) in
    small_by_max c.args.levels.now c.args.most most c.requires
