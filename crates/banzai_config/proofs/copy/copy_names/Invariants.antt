use Rattle.std.proofs.Common.{◌≡◌, take}
use Rattle.banzai_config.proofs.copy.copy_names.Given as goal

abbrev pub invariant-loop-k : goal.invariant-loop-k
invariant-loop-k l = l.copies ≡ take l.k l.names
