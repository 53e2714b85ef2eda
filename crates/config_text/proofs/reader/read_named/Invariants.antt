use Rattle.std.proofs.Common.{◌-◌, length}
use Rattle.config_text.proofs.TextLines.{SoFar}
use Rattle.config_text.specs.DraftViews.{draft_form}
use Rattle.config_text.proofs.reader.read_named.Given as goal

abbrev pub invariant-lines : goal.invariant-lines
invariant-lines l = SoFar l.text l.at l.number (draft_form l.draft)

abbrev pub decreases-lines : goal.decreases-lines
decreases-lines l = length l.text - l.at
