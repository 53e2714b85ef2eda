use Rattle.std.proofs.Common.{◌≡◌, map, take}
use Rattle.trace_text.proofs.lines.names_of_arrays.Given as goal

abbrev pub invariant-loop-array : goal.invariant-loop-array
invariant-loop-array l = l.names ≡ map (λ array. array.name) (take l.array-index l.arrays)
