use Rattle.std.proofs.Common.{◌≡◌, ◌≤◌, ◌*◌, length, sum_by, take}
use Rattle.dom_report.proofs.elastic_report.held_in.Given as goal

abbrev pub invariant-loop-queue : goal.invariant-loop-queue
invariant-loop-queue g l = record {
  sum : l.held ≡ sum_by length (take l.queue l.elastic.queues);
  few : l.held ≤ l.queue * g.row.CAP;
}
