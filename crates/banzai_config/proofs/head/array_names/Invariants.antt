use Rattle.std.proofs.Common.{◌≡◌, map, take}
use Rattle.banzai_config.specs.Legal.{name_of_array}
use Rattle.banzai_config.proofs.head.array_names.Given as goal

abbrev pub invariant-loop-array : goal.invariant-loop-array
invariant-loop-array l = l.names ≡ map name_of_array (take l.array-index l.arrays)
