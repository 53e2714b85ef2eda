use Rattle.std.proofs.Common.{◌≡◌, map, take}
use Rattle.codelets.specs.Answer.{slot_of}
use Rattle.codelets.specs.ByRows.{cut_by}
use Rattle.codelets.proofs.places.slots.Given as goal

abbrev pub invariant-loop-held : goal.invariant-loop-held
invariant-loop-held l = l.slots ≡ map (slot_of (cut_by l.flat l.graph)) (take l.held-index l.list)
