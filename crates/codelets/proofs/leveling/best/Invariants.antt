use Rattle.std.proofs.Common.{◌≡◌, ◌<◌, map, take}
use Rattle.std.specs.Prelude.{slice_index}
use Rattle.std.specs.List.{All}
use Rattle.codelets.specs.Lists.{max_of}
use Rattle.codelets.proofs.leveling.best.Given as goal

abbrev pub invariant-loop-place : goal.invariant-loop-place
invariant-loop-place l = record {
  value : l.best ≡ max_of (map (slice_index l.levels) (take l.place-index l.places));
  low : All (λ n. n < 1000000) l.levels → l.best < 1000000;
}
