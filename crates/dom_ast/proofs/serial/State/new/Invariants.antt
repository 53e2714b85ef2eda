use Rattle.std.proofs.Common.{◌≡◌, take}
use Rattle.dom_words.specs.State.{started}
use Rattle.dom_ast.proofs.serial.State.new.Given as goal

abbrev pub invariant-loop-k : goal.invariant-loop-k
invariant-loop-k l = l.arrays.items ≡ started (take l.k l.declared)
