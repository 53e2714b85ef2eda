use Rattle.std.proofs.Common.{◌≡◌, map, take}
use Rattle.compile_law.specs.Compiled.{part_slot}
use Rattle.compile_parts.proofs.adding.part_slots.Given as goal

abbrev pub invariant-loop-slot : goal.invariant-loop-slot
invariant-loop-slot l = l.parts ≡ map (part_slot l.codelets) (take l.slot-index l.slots)
