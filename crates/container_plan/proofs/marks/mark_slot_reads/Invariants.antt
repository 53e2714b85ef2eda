use Rattle.std.proofs.Common.{◌≡◌, take}
use Rattle.std.specs.List.{flat_map}
use Rattle.banzai_config.specs.Named.{slot_reads}
use Rattle.container_plan.specs.Marks.{marked}
use Rattle.container_plan.proofs.marks.mark_slot_reads.Given as goal

abbrev pub invariant-loop-slot : goal.invariant-loop-slot
invariant-loop-slot l = l.marks ≡ marked l.stage (flat_map slot_reads (take l.slot-index l.slots)) l.fn.marks
