use Rattle.std.proofs.Common.{◌≡◌, drop}
use Rattle.dom_io.specs.Held.{planned_bytes}
use Rattle.dom_io.proofs.mem_sink.planned.Given as goal

abbrev pub invariant-loop-put : goal.invariant-loop-put
invariant-loop-put l = planned_bytes l.failing l.number ≡ planned_bytes (drop l.put-index l.failing) l.number
