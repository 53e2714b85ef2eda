use Rattle.std.proofs.Common.{◌≡◌, map, suc, take}
use Rattle.std.specs.Prelude.{slice_index}
use Rattle.codelets.specs.Lists.{max_of}
use Rattle.codelets.proofs.leveling.round.Given as goal

abbrev pub invariant-loop-k : goal.invariant-loop-k
invariant-loop-k l = l.next.items ≡ map (λ us. suc (max_of (map (slice_index l.levels) us))) (take l.k l.lists)
