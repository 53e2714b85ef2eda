use Rattle.std.proofs.Common.{◌%◌, ◌≡◌, ◌^◌, sum, sum_by, take}
use Rattle.dom_report.proofs.selfrun.sum_words.Given as goal

abbrev pub invariant-loop-array : goal.invariant-loop-array
invariant-loop-array g l = l.total ≡ sum_by sum (take l.array l.machine.row.state) % 2 ^ 32
