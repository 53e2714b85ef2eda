use Rattle.std.proofs.Common.{◌≡◌, take}
use Rattle.banzai_config.proofs.copy.copy_ops.Given as goal

abbrev pub invariant-loop-atom : goal.invariant-loop-atom
invariant-loop-atom l = l.copies ≡ take l.atom-index l.atoms
