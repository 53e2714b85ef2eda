use Rattle.std.proofs.Common.{◌≡◌, replicate}
use Rattle.elastic_machine.proofs.make.marks.Given as goal

abbrev pub invariant-loop-i : goal.invariant-loop-i
invariant-loop-i l = l.all ≡ replicate l._i (record { start = 0; count = 0 })
