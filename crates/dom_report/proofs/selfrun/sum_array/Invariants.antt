use Rattle.std.proofs.Common.{◌%◌, ◌≡◌, ◌^◌, sum, take}
use Rattle.dom_words.specs.State.{array_of}
use Rattle.dom_report.proofs.selfrun.sum_array.Given as goal

abbrev pub invariant-loop-index : goal.invariant-loop-index
invariant-loop-index g l = l.total ≡ sum (take l.index (array_of l.machine.row.state l.array)) % 2 ^ 32
