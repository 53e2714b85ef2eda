use Rattle.std.proofs.Common.{◌≡◌, take}
use Rattle.dom_words.specs.State.{started}
use Rattle.banzai_machine.proofs.make.arrays.Given as goal

abbrev pub invariant-loop-array : goal.invariant-loop-array
invariant-loop-array l = l.arrays ≡ started (take l.array-index l.declared)
