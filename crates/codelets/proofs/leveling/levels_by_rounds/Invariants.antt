use Rattle.std.proofs.Common.{◌≡◌, map}
use Rattle.codelets.specs.Cut.{uses_codelet}
use Rattle.codelets.specs.ByRows.{cut_by}
use Rattle.codelets.specs.Lists.{level_by}
use Rattle.codelets.proofs.leveling.levels_by_rounds.Given as goal

abbrev pub invariant-loop-k : goal.invariant-loop-k
invariant-loop-k l = l.levels.items ≡ map (level_by (uses_codelet (cut_by l.flat l.graph)) (cut_by l.flat l.graph).all l._k) (cut_by l.flat l.graph).all
