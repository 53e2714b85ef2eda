use Rattle.std.proofs.Common.{◌≡◌, take}
use Rattle.std.specs.Prelude.{slice_get}
use Rattle.codelets.specs.ByRows.{cut_by}
use Rattle.codelets.specs.Held.{stored_by}
use Rattle.codelets.specs.Lists.{first_some}
use Rattle.codelets.proofs.held.written_by.Given as goal

abbrev pub invariant-loop-b : goal.invariant-loop-b
invariant-loop-b l = l.found ≡ first_some (λ b. stored_by (cut_by l.flat l.graph) l.array b (slice_get l.flat.lines b)) (take l.b-index l.c)
